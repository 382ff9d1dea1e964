-- What kept contents keep, as facts to use and to give back. Assumes nothing.
use Rattle.std.proofs.Common.{◌≡◌, ℕ, zero, suc, ◌+◌, ◌<◌, ◌≤◌, true, false, eqb, leb, List, [], ◌∷◌, ◌++◌, length, get_or, sym, refl, ap, subst, zero-add, arith}
use Rattle.std.proofs.lemmas.Bool.{and_parts, and_from, leb-true, le-leb, eqb-true, eq-eqb, both_ways}
use Rattle.algebra.specs.Term.{Term, same}
use Rattle.algebra.proofs.Terms.{same_true, same_refl}
use Rattle.row.specs.declared.lead.Lead.{Lead}
use Rattle.row.specs.declared.lead.Lead.TheVariants.{Inside, OnBorder}
use Rattle.book.specs.declared.contents.Contents.{Contents}
use Rattle.book.specs.Leading.{leads_of}
use Rattle.book.specs.Kept.{terms_of, border_of, rows_of, terms_fit, same_terms, border_in, same_lead, begins, led, led_in, complete_in, all_long, coherent, kept}

pub record Facts (k : Contents) : Type 0 where
  pub some_variable : 1 ≤ k.basis.variables
  pub few_variables : k.basis.variables ≤ 8
  pub few_terms : length (terms_of k) ≤ 32
  pub small_border : length (border_of k) ≤ 256
  pub fit : terms_fit k.basis.variables (terms_of k) ≡ true
  pub is_border : border_of k ≡ border_in k.phase k.basis.variables (terms_of k)
  pub is_led : led_in k.phase (terms_of k) (border_of k) k.basis.variables k.border.leads.columns ≡ true
  pub is_complete : complete_in k.phase (terms_of k) (rows_of k) ≡ true
  pub long_rows : all_long k.rules.rows ≡ true
  pub rows_long : length k.rules.rows ≡ 256

same_terms_true : (ts us : List Term) → same_terms ts us ≡ true → ts ≡ us
same_terms_true [] [] h = refl
same_terms_true [] (u ∷ us) h = absurd (both_ways false refl h)
same_terms_true (t ∷ ts) [] h = absurd (both_ways false refl h)
same_terms_true (t ∷ ts) (u ∷ us) h = let p = and_parts (same t u) (same_terms ts us) h in λ i. same_true t u p.0 i ∷ same_terms_true ts us p.1 i

same_terms_refl : (ts : List Term) → same_terms ts ts ≡ true
same_terms_refl [] = refl
same_terms_refl (t ∷ ts) = and_from (same t t) _ (same_refl t) (same_terms_refl ts)

pub facts : (k : Contents) → kept k ≡ true → Facts k
unfolding coherent
facts k h₁ =
    let h₂ = and_parts (leb 1 k.basis.variables) _ h₁ in
    let h₃ = and_parts (leb k.basis.variables 8) _ h₂.1 in
    let h₄ = and_parts (leb (length (terms_of k)) 32) _ h₃.1 in
    let h₅ = and_parts (leb (length (border_of k)) 256) _ h₄.1 in
    let open_up = and_parts (coherent k) _ h₅.1 in
    let h₆ = and_parts (terms_fit k.basis.variables (terms_of k)) _ open_up.0 in
    let h₇ = and_parts (same_terms (border_of k) (border_in k.phase k.basis.variables (terms_of k))) _ h₆.1 in
    let h₈ = and_parts (led_in k.phase (terms_of k) (border_of k) k.basis.variables k.border.leads.columns) _ h₇.1 in
    let h₉ = and_parts (complete_in k.phase (terms_of k) (rows_of k)) _ h₈.1 in
    let h₁₀ = and_parts (all_long k.rules.rows) _ h₉.1 in
    record {
      some_variable = leb-true 1 _ h₂.0;
      few_variables = leb-true _ 8 h₃.0;
      few_terms = leb-true _ 32 h₄.0;
      small_border = leb-true _ 256 h₅.0;
      fit = h₆.0;
      is_border = same_terms_true _ _ h₇.0;
      is_led = h₈.0;
      is_complete = h₉.0;
      long_rows = h₁₀.0;
      rows_long = eqb-true _ 256 (and_parts (eqb (length k.rules.rows) 256) _ h₁₀.1).0;
    }

pub keep : (k : Contents) → Facts k → kept k ≡ true
unfolding coherent
keep k f =
    and_from _ _ (le-leb 1 _ f.some_variable)
    (and_from _ _ (le-leb _ 8 f.few_variables)
    (and_from _ _ (le-leb _ 32 f.few_terms)
    (and_from _ _ (le-leb _ 256 f.small_border)
    (and_from _ _
    (and_from _ _ f.fit
    (and_from _ _ (subst (λ (ts : List Term). same_terms ts (border_in k.phase k.basis.variables (terms_of k)) ≡ true) (sym f.is_border) (same_terms_refl (border_in k.phase k.basis.variables (terms_of k))))
    (and_from _ _ f.is_led (and_from _ _ f.is_complete (and_from _ _ f.long_rows (and_from _ _ (eq-eqb _ 256 f.rows_long) refl))))))
    refl))))

same_lead_true : (l m : Lead) → same_lead l m ≡ true → l ≡ m
same_lead_true (Inside a) (Inside b) h = ap Inside (eqb-true a b h)
same_lead_true (Inside a) (OnBorder b) h = absurd (both_ways false refl h)
same_lead_true (OnBorder a) (Inside b) h = absurd (both_ways false refl h)
same_lead_true (OnBorder a) (OnBorder b) h = ap OnBorder (eqb-true a b h)

same_lead_refl : (l : Lead) → same_lead l l ≡ true
same_lead_refl (Inside a) = eq-eqb a a refl
same_lead_refl (OnBorder a) = eq-eqb a a refl

begins_with : (ls ms : List Lead) → begins ls ms ≡ true → (more : List Lead) × (ms ≡ ls ++ more)
begins_with [] ms h = (ms, refl)
begins_with (l ∷ ls) [] h = absurd (both_ways false refl h)
begins_with (l ∷ ls) (m ∷ ms) h =
    let p = and_parts (same_lead l m) (begins ls ms) h in
    let r = begins_with ls ms p.1 in
    (r.0, λ i. sym (same_lead_true l m p.0) i ∷ r.1 i)

pub begins_append : (ls ms : List Lead) → begins ls (ls ++ ms) ≡ true
begins_append [] ms = refl
begins_append (l ∷ ls) ms = and_from _ _ (same_lead_refl l) (begins_append ls ms)

led_from : (S E : List Term) (i n : ℕ) (columns : List (List Lead)) → led S E i n columns ≡ true → (k : ℕ) → k < n → (more : List Lead) × (get_or columns (i + k) [] ≡ leads_of S E (i + k) S ++ more)
led_from S E i zero columns h k l = absurd (omega arith)
led_from S E i (suc n) columns h zero l =
    let p = and_parts (begins (leads_of S E i S) (get_or columns i [])) _ h in
    let r = begins_with (leads_of S E i S) (get_or columns i []) p.0 in
    let at : i ≡ i + 0 = omega arith in
    (r.0, subst (λ (j : ℕ). get_or columns j [] ≡ leads_of S E j S ++ r.0) at r.1)
led_from S E i (suc n) columns h (suc k) l =
    let p = and_parts (begins (leads_of S E i S) (get_or columns i [])) (led S E (suc i) n columns) h in
    let r = led_from S E (suc i) n columns p.1 k (omega arith) in
    let at : suc i + k ≡ i + suc k = omega arith in
    (r.0, subst (λ (j : ℕ). get_or columns j [] ≡ leads_of S E j S ++ r.0) at r.1)

-- the column of each variable begins with its leads
pub column : (S E : List Term) (n : ℕ) (columns : List (List Lead)) → led S E 0 n columns ≡ true → (i : ℕ) → i < n → (more : List Lead) × (get_or columns i [] ≡ leads_of S E i S ++ more)
column S E n columns h i l =
    let r = led_from S E 0 n columns h i l in
    (r.0, subst (λ (j : ℕ). get_or columns j [] ≡ leads_of S E j S ++ r.0) (zero-add i) r.1)
