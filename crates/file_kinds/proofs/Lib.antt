mod FirstBytes
