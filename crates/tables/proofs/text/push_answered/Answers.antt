use Rattle.std.proofs.Common.{◌≡◌, ℕ, Bool, cond, List, ◌++◌, Ok, Err, Result, is_ok, OnOk, MatchResult, sym, ap, ◌∙◌, subst, rules}
use Rattle.std.proofs.lemmas.Bool.{cond-true, cond-false}
use Rattle.field.specs.Arithmetic.{Arithmetic}
use Rattle.field.specs.Supplied.{modulo, binary}
use Rattle.field.specs.Made.{modulus, size}
use Rattle.tables.specs.declared.request.Request.TheVariants.{PrimeField, BinaryField}
use Rattle.tables.specs.Page.{page}
use Rattle.tables.specs.Text.{refused, answered}
use Rattle.tables.proofs.text.push_answered.Goals as goal

-- the page of a field that was made is the answer to its number
made_page : {T E F R : Type 0} (kind : ℕ → Arithmetic) (number : F → ℕ) (r : Result T E) (made : Result F R) (asked : ℕ) (listed : Bool) (was now : List ℕ) (bad : R → Type 0)
    → is_ok made ≡ listed → MatchResult made (λ f. number f ≡ asked) bad
    → OnOk r (MatchResult made (λ f. now ≡ was ++ page (kind (number f))) (λ _. now ≡ was ++ refused))
    → OnOk r (now ≡ was ++ cond listed (page (kind asked)) refused)
made_page kind number (Err _) made asked listed was now bad ok same h = tt
made_page kind number (Ok _) (Ok f) asked listed was now bad ok same h =
    h ∙ ap (λ n. was ++ page (kind n)) same ∙ ap (λ bs. was ++ bs) (sym (cond-true listed _ _ (sym ok)))
made_page kind number (Ok _) (Err _) asked listed was now bad ok same h = h ∙ ap (λ bs. was ++ bs) (sym (cond-false listed _ _ (sym ok)))

-- the answer that is asked for is the one that was pushed
made_same : {T E : Type 0} (r : Result T E) (was now : List ℕ) {ys zs : List ℕ} → ys ≡ zs → OnOk r (now ≡ was ++ ys) → OnOk r (now ≡ was ++ zs)
made_same r was now e h = subst (λ xs. OnOk r (now ≡ was ++ xs)) e h

pub returns-in-Ok-PrimeField : goal.returns-in-Ok-PrimeField
returns-in-Ok-PrimeField c =
    let request : Ok (PrimeField c.in-Ok-PrimeField.p) ≡ c.args.request = search rules in
    made_same c.push_made.result _ _ (ap (answered c.args.number) request)
    (made_page modulo modulus c.push_made.result c.new.result _ _ _ _ _ c.new.ensures.granted c.new.ensures.made c.push_made.ensures)

pub returns-in-Ok-BinaryField : goal.returns-in-Ok-BinaryField
returns-in-Ok-BinaryField c =
    let request : Ok (BinaryField c.in-Ok-BinaryField.k) ≡ c.args.request = search rules in
    made_same c.push_made-in-Ok-BinaryField.result _ _ (ap (answered c.args.number) request)
    (made_page binary size c.push_made-in-Ok-BinaryField.result c.new-in-Ok-BinaryField.result _ _ _ _ _ c.new-in-Ok-BinaryField.ensures.granted c.new-in-Ok-BinaryField.ensures.made c.push_made-in-Ok-BinaryField.ensures)
