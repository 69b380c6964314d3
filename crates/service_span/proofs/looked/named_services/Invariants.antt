use Rattle.std.proofs.Common.{◌≡◌, ℕ, List, take}
use Rattle.std.specs.List.{list_any}
use Rattle.std.specs.Str.{bytes_eq}
use Rattle.service_span.specs.Days.{service_of}
use Rattle.service_span.specs.Looked.{is_member}
use Rattle.service_span.proofs.looked.named_services.Given as goal

abbrev pub invariant-loop-trip : goal.invariant-loop-trip
invariant-loop-trip l = (service : List ℕ) → is_member l.names service ≡ list_any (λ trip. bytes_eq (service_of l.tables trip) service) (take l.trip-index l.trip-items)
