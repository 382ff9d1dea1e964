use Rattle.std.proofs.Common.{◌∙◌, inl, inr, ⊎_elim}
use Rattle.field.specs.Arithmetic.{ring}
use Rattle.std.specs.Prelude.{map}
use Rattle.row.proofs.Leading.{map_led_end}
use Rattle.row.proofs.maps.Maps.map_onto.Goals as goal

pub returns : goal.returns
returns g c =
    map_led_end (ring (g.F.Field.meaning c.args.self.now.field.now)) (map g.R.StoredRow.codes c.args.self.now.rows.now) c.loop-c.out _ _
    (⊎_elim (λ p. inl p.1.0) (λ p. inr p.1.0) c.in-None.ensures.steps)
    ∙ c.loop-c.invariant
