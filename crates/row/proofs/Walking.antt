-- The walk of a row by a term, one variable after the other. Assumes nothing.
use Rattle.std.proofs.Common.{◌≡◌, ℕ, ◌<◌, List, [], length, get_or, Some, None, sym, refl, ap, ◌∙◌, arith}
use Rattle.field.specs.Arithmetic.{Ring}
use Rattle.algebra.specs.Term.{Term, degree, word, spelled}
use Rattle.algebra.specs.Border.{Row}
use Rattle.algebra.proofs.Terms.{spelled_word}
use Rattle.term.specs.Letters.{first_variable}
use Rattle.term.proofs.Letters.{word_variable, word_empty, divided}
use Rattle.row.specs.declared.lead.Lead.{Lead}
use Rattle.row.specs.Leads.{advanced}
use Rattle.row.specs.Listing.{Listed, listed_all, step_led, walk_row, walk_entries}
use Rattle.row.proofs.Listing.{listed_all_append}

pub quotient_less : (t : Term) (i : ℕ) (q : Term) → Some (i, q) ≡ first_variable t → degree q < degree t
quotient_less t i q e = omega (arith, (divided t i q (sym e)).one_less)

-- what is left of a walk ends where the whole of it does
pub record Left (R : Ring) (rows : List Row) (leads : List (List Lead)) (v : Row) (t : Term) (l : Listed) (v' : Row) (t' : Term) (l' : Listed) : Type 0 where
  pub eight : length t' ≡ 8
  pub row : walk_row R rows leads v' (word t') ≡ walk_row R rows leads v (word t)
  pub list : listed_all l' (walk_entries R rows leads v' (word t')) ≡ listed_all l (walk_entries R rows leads v (word t))

module _ (R : Ring) (rows : List Row) (leads : List (List Lead)) (v : Row) (t : Term) (l : Listed) where
  pub left_all : length t ≡ 8 → Left R rows leads v t l v t l
  left_all e = record { eight = e; row = refl; list = refl }

  pub left_less : (v' : Row) (t' : Term) (l' : Listed) (i : ℕ) (q : Term) (v'' : Row) (l'' : Listed) → Left R rows leads v t l v' t' l' → Some (i, q) ≡ first_variable t' → l'' ≡ listed_all l' (step_led q v' (get_or leads i [])) → v'' ≡ advanced R rows (get_or leads i []) v' → Left R rows leads v t l v'' q l''
  left_less v' t' l' i q v'' l'' left e el ev =
      let w = word_variable t' i q (sym e) in
      let eight : length q ≡ 8 = (divided t' i q (sym e)).same_length ∙ left.eight in
      let next = advanced R rows (get_or leads i []) v' in
      record {
        eight = eight;
        row = ap (λ (x : Row). walk_row R rows leads x (word q)) ev ∙ ap (walk_row R rows leads v') (sym w) ∙ left.row;
        list = (λ k. listed_all (el k) (walk_entries R rows leads (ev k) (word q)))
            ∙ ap (λ (m : Term). listed_all (listed_all l' (step_led m v' (get_or leads i []))) (walk_entries R rows leads next (word q))) (sym (spelled_word q eight))
            ∙ sym (listed_all_append l' (step_led (spelled (word q)) v' (get_or leads i [])) (walk_entries R rows leads next (word q)))
            ∙ ap (λ (x : List ℕ). listed_all l' (walk_entries R rows leads v' x)) (sym w) ∙ left.list;
      }

  pub left_none : (v' : Row) (t' : Term) (l' : Listed) → Left R rows leads v t l v' t' l' → None ≡ first_variable t' → (v' ≡ walk_row R rows leads v (word t)) × (l' ≡ listed_all l (walk_entries R rows leads v (word t)))
  left_none v' t' l' left e =
      let w = word_empty t' (sym e) in
      (ap (walk_row R rows leads v') (sym w) ∙ left.row, ap (λ (x : List ℕ). listed_all l' (walk_entries R rows leads v' x)) (sym w) ∙ left.list)
