use Rattle.std.proofs.Common.{◌≡◌}
use Rattle.row.specs.Listing.{listing, listed_all, step_led}
use Rattle.row.proofs.slots.Slots.list_step.Given as goal

abbrev pub invariant-loop-c : goal.invariant-loop-c
invariant-loop-c l = record {
  same_reference : l.self.slots.ghost_name ≡ l.fn.self.slots.ghost_name;
  listed : listed_all (listing l.self.slots.now l.self.count) (step_led l.multiplier l.c-iterator.a.rest.now l.c-iterator.b.rest.now)
      ≡ listed_all (listing l.fn.self.slots.now l.fn.self.count) (step_led l.multiplier l.row l.leads);
}
