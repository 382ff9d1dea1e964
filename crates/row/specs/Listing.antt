-- Writing entries into slots, and the walk of a row by a term. Assumes nothing.
use Rattle.std.specs.Prelude.{ℕ, suc, cond, List, [], ◌∷◌, ◌++◌, length, ◌==◌, nat_lt, slice_index_or, slice_set}
use Rattle.field.specs.Arithmetic.{Ring}
use Rattle.algebra.specs.Term.{Term, spelled}
use Rattle.algebra.specs.Border.{Row}
use Rattle.algebra.specs.declared.Entry.{Entry}
use Rattle.row.specs.declared.lead.Lead.{Lead}
use Rattle.row.specs.declared.lead.Lead.TheVariants.{Inside, OnBorder}
use Rattle.row.specs.Leads.{advanced}

-- The slots and how many of them are taken.
pub record Listed : Type 0 where
  pub slots : List Entry
  pub count : ℕ

abbrev pub listing : List Entry → ℕ → Listed
listing slots count = record { slots = slots; count = count }

-- one entry more, where there is a slot for it
abbrev pub listed_one : Listed → Entry → Listed
listed_one l e = cond (nat_lt l.count (length l.slots)) (listing (slice_set l.slots l.count e) (suc l.count)) l

abbrev pub listed_all : Listed → List Entry → Listed
listed_all l [] = l
listed_all l (e ∷ es) = listed_all (listed_one l e) es

abbrev pub led_entry : ℕ → Term → Lead → List Entry
led_entry c m (Inside k) = []
led_entry c m (OnBorder k) = record { code = c; multiplier = m; place = k } ∷ []

-- the entries of a step: one for each nonzero code that leads to the border
abbrev pub step_led : Term → Row → List Lead → List Entry
step_led m [] ls = []
step_led m (c ∷ v) [] = []
step_led m (c ∷ v) (l ∷ ls) = cond (c == 0) [] (led_entry c m l) ++ step_led m v ls

-- the walk of a row by a word, with the leads of each variable
abbrev pub walk_row : Ring → List Row → List (List Lead) → Row → List ℕ → Row
walk_row R rows leads v [] = v
walk_row R rows leads v (i ∷ w) = walk_row R rows leads (advanced R rows (slice_index_or leads i []) v) w

abbrev pub walk_entries : Ring → List Row → List (List Lead) → Row → List ℕ → List Entry
walk_entries R rows leads v [] = []
walk_entries R rows leads v (i ∷ w) = step_led (spelled w) v (slice_index_or leads i []) ++ walk_entries R rows leads (advanced R rows (slice_index_or leads i []) v) w
