use Rattle.std.proofs.Common.{◌-◌, ◌<◌, length, Ok, Option, sym, ap, ◌∙◌, subst}
use Rattle.sheet.specs.declared.reader.Placed.{Placed}
use Rattle.sheet.specs.Reading.{State, state, seen, seen_next}
use Rattle.sheet.proofs.Progress.{progress}
use Rattle.lister.proofs.listing.ListingDisplay.fmt.Goals as goal

pub loop-placed-smaller : goal.loop-placed-smaller
loop-placed-smaller g c =
    let s = state c.loop-placed.reader in
    let e = sym c.next.ensures.value ∙ ap seen_next c.in-Ok-Some.is ∙ ap (λ (o : Option Placed). seen_next (Ok o)) c.in-Ok-Some.field-0-is in
    subst (λ (t : State). length t.sheet - t.at < length s.sheet - s.at) (sym c.next.ensures.after) (progress s (seen c.in-Ok-Some.placed) e)
