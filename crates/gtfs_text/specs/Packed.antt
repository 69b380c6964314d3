-- How a sheet keeps a record in one text: for each field its length, and then its bytes.
use Rattle.std.specs.Prelude.{◌≡◌, ◌≤◌, ◌-◌, Bool, ℕ, zero, suc, List, [], ◌∷◌, ◌++◌, length, take, drop, get_or, nat_le, nat_lt, if◌then◌else◌, ◌==◌, ◌&&◌}
use Rattle.std.specs.Int.{w64, to_le_bytes, from_le_bytes}

-- a length: one byte below 255, or 255 and eight bytes, the lowest first
abbrev pub length_bytes : ℕ → List ℕ
length_bytes size = if nat_lt size 255 then size ∷ [] else 255 ∷ to_le_bytes w64 size

-- a field of a packed record
abbrev pub packed_field : List ℕ → List ℕ
packed_field field = length_bytes (length field) ++ field

-- a packed record begins with a length of nine bytes
abbrev pub is_long : List ℕ → Bool
is_long packed = (get_or packed 0 0 == 255) && nat_le 9 (length packed)

-- the length in the eight bytes after the first
abbrev pub long_length : List ℕ → ℕ
long_length packed =
    from_le_bytes w64 (get_or packed 1 0 ∷ get_or packed 2 0 ∷ get_or packed 3 0 ∷ get_or packed 4 0 ∷ get_or packed 5 0
    ∷ get_or packed 6 0 ∷ get_or packed 7 0 ∷ get_or packed 8 0 ∷ [])

-- the length of the first field of a packed record, and what stands after that length
abbrev pub first_length : List ℕ → ℕ
first_length packed = if is_long packed then long_length packed else get_or packed 0 0

abbrev pub behind_length : List ℕ → List ℕ
behind_length packed = if is_long packed then drop 9 packed else drop 1 packed

-- the first field of a packed record
abbrev pub first_field : List ℕ → List ℕ
first_field packed = take (first_length packed) (behind_length packed)

-- a packed record after its first field
abbrev pub next_fields : List ℕ → List ℕ
next_fields packed = drop (first_length packed) (behind_length packed)

-- the fields of a packed record, as many as `most`
unfoldable pub fields_within : ℕ → List ℕ → List (List ℕ)
fields_within zero packed = []
fields_within (suc most) packed = if length packed == 0 then [] else first_field packed ∷ fields_within most (next_fields packed)

-- the fields of a packed record: each takes a byte at least, so they are no more than its bytes
abbrev pub unpacked : List ℕ → List (List ℕ)
unpacked packed = fields_within (length packed) packed

-- a text in pieces from a place on, each up to one of these ends
unfoldable pub pieces : ℕ → List ℕ → List ℕ → List (List ℕ)
pieces start text [] = []
pieces start text (end ∷ ends) = take (end - start) (drop start text) ∷ pieces end text ends

-- from a place on no end is before the one before it, and the last is where the text ends
unfoldable pub AreEnds : ℕ → List ℕ → ℕ → Type 0
AreEnds start [] size = start ≡ size
AreEnds start (end ∷ ends) size = (start ≤ end) × AreEnds end ends size
