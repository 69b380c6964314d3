-- A premise that nobody can prove.

-- The file does as a disk does. It is granted or not; nothing in the repository shows it. The body is shut: only this file opens it.
pub IsGranted : {T : Type 0} → T → Type 0
IsGranted {T} file = ⊥

-- What follows from it, for the one crate that says what a file's calls do. No other crate may stand on this one.
pub granted_gives : {T : Type 0} (file : T) (P : Type 0) → IsGranted file → P
unfolding IsGranted
granted_gives {T} file P granted = absurd granted
