use Rattle.std.proofs.Common.{◌∙◌, inl, inr, ⊎_elim}
use Rattle.row.specs.Listing.{listing}
use Rattle.row.proofs.Leading.{step_led_end}
use Rattle.row.proofs.slots.Slots.list_step.Goals as goal

pub returns-clause-listed : goal.returns-clause-listed
returns-clause-listed c =
    step_led_end (listing c.loop-c.self.slots.now c.loop-c.self.count) c.args.multiplier _ _ (⊎_elim (λ p. inl p.1.0) (λ p. inr p.1.0) c.in-None.ensures.steps)
    ∙ c.loop-c.invariant.listed
