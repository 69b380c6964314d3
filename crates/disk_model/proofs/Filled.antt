-- What a length and a fill make is an outcome, and each outcome is made so.
use Rattle.std.proofs.lemmas.List.{get_or-drop, drop-drop}
use Rattle.std.proofs.Common.{◌≡◌, ℕ, zero, suc, ◌+◌, ◌-◌, ◌<◌, ◌≤◌, List, [], ◌∷◌, length, drop, get_or, refl, sym, ◌∙◌, ap, subst, append_assoc, ◌++◌, arith, Bool, true, false}
use Rattle.std.specs.Prelude.{if◌then◌else◌}
use Rattle.disk_model.specs.Image.{Image, IsOutcome}
use Rattle.disk_model.specs.Crash.{is_open, open_count, filled_bytes, CanCrash}
use Rattle.disk_model.proofs.Covered.{closed, closed_kept}

length_either : (b : Bool) (x y : ℕ) (xs ys : List ℕ) (n : ℕ) → length xs ≡ n → length ys ≡ n → length (if b then x ∷ xs else y ∷ ys) ≡ suc n
length_either true x y xs ys n xs_long ys_long = ap (λ (k : ℕ). suc k) xs_long
length_either false x y xs ys n xs_long ys_long = ap (λ (k : ℕ). suc k) ys_long

pub length-filled_bytes : (image : Image) (place n : ℕ) (fill : List ℕ) → length (filled_bytes image place n fill) ≡ n
length-filled_bytes image place zero fill = refl
length-filled_bytes image place (suc n) fill =
    length_either (is_open image place) _ _ _ _ n (length-filled_bytes image (place + 1) n (drop 1 fill)) (length-filled_bytes image (place + 1) n fill)

first_closed : (b : Bool) (x y : ℕ) (xs ys : List ℕ) → b ≡ false → get_or (if b then x ∷ xs else y ∷ ys) 0 0 ≡ y
first_closed true x y xs ys shut = absurd (let no : ⊥ = cc in no)
first_closed false x y xs ys shut = refl

later_either : (b : Bool) (x y : ℕ) (xs ys : List ℕ) (j v : ℕ) → get_or xs j 0 ≡ v → get_or ys j 0 ≡ v → get_or (if b then x ∷ xs else y ∷ ys) (suc j) 0 ≡ v
later_either true x y xs ys j v in_xs in_ys = in_xs
later_either false x y xs ys j v in_xs in_ys = in_ys

kept : (image : Image) (place n : ℕ) (fill : List ℕ) (j : ℕ) → j < n → is_open image (place + j) ≡ false → get_or (filled_bytes image place n fill) j 0 ≡ get_or image.synced (place + j) 0
kept image place zero fill j lt shut = absurd (omega (arith, lt))
kept image place (suc n) fill zero lt shut =
    let here : place ≡ place + zero = omega arith in
    first_closed (is_open image place) _ _ _ _ (ap (is_open image) here ∙ shut) ∙ ap (λ (k : ℕ). get_or image.synced k 0) here
kept image place (suc n) fill (suc j) lt shut =
    let there : place + 1 + j ≡ place + suc j = omega arith in
    let same = λ (rest : List ℕ). kept image (place + 1) n rest j (omega (arith, lt)) (ap (is_open image) there ∙ shut) ∙ ap (λ (k : ℕ). get_or image.synced k 0) there in
    later_either (is_open image place) _ _ _ _ j (get_or image.synced (place + suc j) 0) (same (drop 1 fill)) (same fill)

pub makes_outcome : (image : Image) (len : ℕ) (fill : List ℕ) → CanCrash image len fill → IsOutcome image (filled_bytes image 0 len fill)
makes_outcome image len fill can = record {
  long = record {
    no_shorter = omega (arith, can.long.no_shorter, length-filled_bytes image 0 len fill);
    no_longer = omega (arith, can.long.no_longer, length-filled_bytes image 0 len fill);
  };
  kept = λ place lt free.
      let here : 0 + place ≡ place = omega arith in
      kept image 0 len fill place (omega (arith, lt, can.long.no_shorter)) (ap (is_open image) here ∙ closed image place lt free) ∙ ap (λ (k : ℕ). get_or image.synced k 0) here;
}

-- one place
pub filled_open : (image : Image) (place n : ℕ) (fill : List ℕ) → is_open image place ≡ true → filled_bytes image place (suc n) fill ≡ get_or fill 0 0 ∷ filled_bytes image (place + 1) n (drop 1 fill)
filled_open image place n fill is = ap (λ (b : Bool). if b then get_or fill 0 0 ∷ filled_bytes image (place + 1) n (drop 1 fill) else get_or image.synced place 0 ∷ filled_bytes image (place + 1) n fill) is

pub filled_closed : (image : Image) (place n : ℕ) (fill : List ℕ) → is_open image place ≡ false → filled_bytes image place (suc n) fill ≡ get_or image.synced place 0 ∷ filled_bytes image (place + 1) n fill
filled_closed image place n fill shut = ap (λ (b : Bool). if b then get_or fill 0 0 ∷ filled_bytes image (place + 1) n (drop 1 fill) else get_or image.synced place 0 ∷ filled_bytes image (place + 1) n fill) shut

pub counted_open : (image : Image) (place n : ℕ) → is_open image place ≡ true → open_count image place (suc n) ≡ 1 + open_count image (place + 1) n
counted_open image place n is = ap (λ (b : Bool). (if b then 1 else 0) + open_count image (place + 1) n) is

pub counted_closed : (image : Image) (place n : ℕ) → is_open image place ≡ false → open_count image place (suc n) ≡ 0 + open_count image (place + 1) n
counted_closed image place n shut = ap (λ (b : Bool). (if b then 1 else 0) + open_count image (place + 1) n) shut

-- these bytes are made at these places
record IsMade (image : Image) (place n : ℕ) (bytes fill : List ℕ) : Type 0 where
  enough : open_count image place n ≤ length fill
  made : filled_bytes image place n fill ≡ bytes

IsMade-one : (image : Image) (place n x : ℕ) (xs : List ℕ) (b : Bool) → is_open image place ≡ b → (b ≡ false → x ≡ get_or image.synced place 0) → (fill : List ℕ) → IsMade image (place + 1) n xs fill → (more : List ℕ) × IsMade image place (suc n) (x ∷ xs) more
IsMade-one image place n x xs true is agrees fill later = (
  x ∷ fill,
  record {
    enough = omega (arith, later.enough, counted_open image place n is);
    made = filled_open image place n (x ∷ fill) is ∙ ap (λ (l : List ℕ). x ∷ l) later.made;
  },
)
IsMade-one image place n x xs false shut agrees fill later = (
  fill,
  record {
    enough = omega (arith, later.enough, counted_closed image place n shut);
    made = filled_closed image place n fill shut ∙ ap (λ (y : ℕ). y ∷ filled_bytes image (place + 1) n fill) (sym (agrees refl)) ∙ ap (λ (l : List ℕ). x ∷ l) later.made;
  },
)

made_by_some : (image : Image) (place : ℕ) (bytes : List ℕ) → ((j : ℕ) → j < length bytes → is_open image (place + j) ≡ false → get_or bytes j 0 ≡ get_or image.synced (place + j) 0) → (fill : List ℕ) × IsMade image place (length bytes) bytes fill
made_by_some image place [] agrees = ([], record { enough = omega arith; made = refl })
made_by_some image place (x ∷ xs) agrees =
    let here : place ≡ place + zero = omega arith in
    let rest = made_by_some image (place + 1) xs (λ j lt shut.
    let there : place + 1 + j ≡ place + suc j = omega arith in
    agrees (suc j) (omega (arith, lt)) (ap (is_open image) (sym there) ∙ shut) ∙ ap (λ (k : ℕ). get_or image.synced k 0) (sym there)) in
    IsMade-one image place (length xs) x xs (is_open image place) refl
    (λ shut. agrees zero (omega arith) (ap (is_open image) (sym here) ∙ shut) ∙ ap (λ (k : ℕ). get_or image.synced k 0) (sym here))
    rest.0 rest.1

pub makes_each : (image : Image) (bytes : List ℕ) → IsOutcome image bytes → (fill : List ℕ) × CanCrash image (length bytes) fill × (filled_bytes image 0 (length bytes) fill ≡ bytes)
makes_each image bytes outcome =
    let made = made_by_some image 0 bytes (λ j lt shut. let here : 0 + j ≡ j = omega arith in
    closed_kept image bytes j outcome (ap (is_open image) (sym here) ∙ shut) ∙ ap (λ (k : ℕ). get_or image.synced k 0) (sym here)) in
    (made.0, record { long = outcome.long; enough = made.1.enough }, made.1.made)

-- in a loop over the places below a length, one place on
next_length : (place len : ℕ) → place < len → len - place ≡ suc (len - (place + 1))
next_length place len lt = omega (arith, lt)

pub open_count-open : (image : Image) (place len : ℕ) → place < len → is_open image place ≡ true → open_count image place (len - place) ≡ 1 + open_count image (place + 1) (len - (place + 1))
open_count-open image place len lt is = ap (open_count image place) (next_length place len lt) ∙ counted_open image place (len - (place + 1)) is

pub open_count-closed : (image : Image) (place len : ℕ) → place < len → is_open image place ≡ false → open_count image place (len - place) ≡ open_count image (place + 1) (len - (place + 1))
open_count-closed image place len lt shut =
    let same = ap (open_count image place) (next_length place len lt) ∙ counted_closed image place (len - (place + 1)) shut in omega (arith, same)

pub filled_bytes-open : (image : Image) (place len used : ℕ) (fill : List ℕ) → place < len → is_open image place ≡ true → filled_bytes image place (len - place) (drop used fill) ≡ get_or fill used 0 ∷ filled_bytes image (place + 1) (len - (place + 1)) (drop (used + 1) fill)
filled_bytes-open image place len used fill lt is =
    ap (λ (n : ℕ). filled_bytes image place n (drop used fill)) (next_length place len lt)
    ∙ filled_open image place (len - (place + 1)) (drop used fill) is
    ∙ ap (λ (y : ℕ). y ∷ filled_bytes image (place + 1) (len - (place + 1)) (drop 1 (drop used fill))) (get_or-drop used fill 0 0 ∙ ap (λ (k : ℕ). get_or fill k 0) (let e : used + 0 ≡ used = omega arith in e))
    ∙ ap (λ (l : List ℕ). get_or fill used 0 ∷ filled_bytes image (place + 1) (len - (place + 1)) l) (drop-drop 1 used fill)

pub filled_bytes-closed : (image : Image) (place len : ℕ) (fill : List ℕ) → place < len → is_open image place ≡ false → filled_bytes image place (len - place) fill ≡ get_or image.synced place 0 ∷ filled_bytes image (place + 1) (len - (place + 1)) fill
filled_bytes-closed image place len fill lt shut =
    ap (λ (n : ℕ). filled_bytes image place n fill) (next_length place len lt) ∙ filled_closed image place (len - (place + 1)) fill shut

-- a place that is open takes a byte of the fill
pub one_open : (image : Image) (place len used : ℕ) (fill bytes later total : List ℕ) → place < len → is_open image place ≡ true
    → bytes ++ filled_bytes image place (len - place) (drop used fill) ≡ total → later ≡ bytes ++ get_or fill used 0 ∷ []
    → later ++ filled_bytes image (place + 1) (len - (place + 1)) (drop (used + 1) fill) ≡ total
one_open image place len used fill bytes later total lt is made more =
    ap (λ (l : List ℕ). l ++ filled_bytes image (place + 1) (len - (place + 1)) (drop (used + 1) fill)) more
    ∙ append_assoc bytes (get_or fill used 0 ∷ []) (filled_bytes image (place + 1) (len - (place + 1)) (drop (used + 1) fill))
    ∙ ap (λ (l : List ℕ). bytes ++ l) (sym (filled_bytes-open image place len used fill lt is))
    ∙ made

-- another is as it was at the last sync
pub one_closed : (image : Image) (place len used : ℕ) (fill bytes later total : List ℕ) → place < len → is_open image place ≡ false
    → bytes ++ filled_bytes image place (len - place) (drop used fill) ≡ total → later ≡ bytes ++ get_or image.synced place 0 ∷ []
    → later ++ filled_bytes image (place + 1) (len - (place + 1)) (drop used fill) ≡ total
one_closed image place len used fill bytes later total lt shut made more =
    ap (λ (l : List ℕ). l ++ filled_bytes image (place + 1) (len - (place + 1)) (drop used fill)) more
    ∙ append_assoc bytes (get_or image.synced place 0 ∷ []) (filled_bytes image (place + 1) (len - (place + 1)) (drop used fill))
    ∙ ap (λ (l : List ℕ). bytes ++ l) (sym (filled_bytes-closed image place len (drop used fill) lt shut))
    ∙ made

-- what a crash of a disk leaves
pub crash_outcome : (image now : Image) (len : ℕ) (fill bytes read : List ℕ) → image ≡ now → CanCrash image len fill → bytes ≡ filled_bytes image 0 len fill → read ≡ bytes → IsOutcome now read
crash_outcome image now len fill bytes read same can is here =
    subst (λ (i : Image). IsOutcome i read) same (subst (IsOutcome image) (sym (here ∙ is)) (makes_outcome image len fill can))
