use Rattle.std.proofs.Common.{◌≡◌, ℕ, ◌+◌, ◌<◌, ◌++◌, List, [], ◌∷◌, length, map, get_or, take, take_all, ap, sym, ◌∙◌}
use Rattle.std.proofs.lemmas.List.{map-append, take_more}
use Rattle.service_days.specs.Noted.{days_noted}
use Rattle.service_days.proofs.running.days_by_service.Goals as goal

one_more : {X Y : Type 0} (f : X → Y) (xs : List X) (i : ℕ) (x : X) (ys new : List Y) (y : Y) → i < length xs → new ≡ ys ++ y ∷ [] → y ≡ f (get_or xs i x)
    → ys ≡ map f (take i xs) → new ≡ map f (take (i + 1) xs)
one_more f xs i x ys new y lt same is so_far =
    same ∙ (ap (λ ys. ys ++ y ∷ []) so_far ∙ (ap (λ y. map f (take i xs) ++ y ∷ []) is
    ∙ sym (ap (map f) (take_more xs i x lt) ∙ map-append f (take i xs) (get_or xs i x ∷ []))))

pub loop-service-init : goal.loop-service-init
loop-service-init c = c.in_ok-running.ensures.items

pub loop-service-preserved : goal.loop-service-preserved
loop-service-preserved c =
    let days = days_noted c.args.noted.now in
    one_more days c.args.services.now c.loop-service.service-index c.service-item.result c.loop-service.running.items c.push.new.self.items
    c.days_noted.result c.loop-service-test.true c.in_ok-push.ensures.items (c.days_noted.ensures ∙ ap days (c.as_str.ensures ∙ c.service-item.is))
    c.loop-service.invariant

pub returns : goal.returns
returns c =
    let days = days_noted c.args.noted.now in
    c.loop-service.invariant ∙ ap (map days) (take_all c.loop-service.service-index c.args.services.now c.loop-service-test.false)
