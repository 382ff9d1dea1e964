-- What a judgement that refuses nothing says. Assumes nothing.
use Rattle.std.proofs.Common.{◌≡◌, ℕ, ◌+◌, ◌*◌, ◌≤◌, true, false, not, ◌&&◌, eqb, ltb, leb, List, length, None, Option, sym, refl, ap, ◌∙◌, subst}
use Rattle.std.proofs.lemmas.Bool.{both_ways, eqb-true, ltb-false, leb-true, and_parts, and_from, eq-eqb}
use Rattle.algebra.specs.Term.{Term, zero_past, place}
use Rattle.algebra.specs.Polynomial.{Polynomial}
use Rattle.algebra.specs.Border.{Row}
use Rattle.algebra.specs.declared.Entry.{Entry}
use Rattle.term.specs.Search.{first_place}
use Rattle.book.specs.declared.phase.Phase.{Phase}
use Rattle.book.specs.declared.phase.Phase.TheVariants.{Open, Closed, Sound, Clash}
use Rattle.book.specs.declared.phase.Event.TheVariants.{GiveRule, Strike, Check, Form, Cofactors, Table}
use Rattle.book.specs.declared.refusal.Refusal.{Refusal}
use Rattle.book.specs.declared.refusal.Refusal.TheVariants.{WrongPhase, ExponentPastVariables, NotOnBorder, WrongLength, CodeOutOfRange, RuleMissing, TooManyPairs, DegreeTooHigh, EntriesTooShort, NoSuchVariable}
use Rattle.book.specs.Phases.{allowed}
use Rattle.book.specs.Ledger.{Ledger, edge}
use Rattle.book.specs.declared.contents.Contents.{Contents}
use Rattle.book.specs.Kept.{is_closed, complete_in, terms_of, rows_of, kept, ledger, ready}
use Rattle.book.proofs.Keeping.{facts}
use Rattle.book.specs.Judge.{refuse, judge_rule, judge_strike, judge_check, judge_pairs, judge_form, judge_cofactors, judge_table, missing, unfit_pair, past_variables, too_high, degrees}
use Rattle.book.proofs.Granting.{refuse_none, refuse_at_none, not_false_true}

-- only closed, sound and clash books take these
pub closed_for : (p : Phase) → (allowed p GiveRule ≡ true) → is_closed p ≡ true
closed_for Open h = absurd (both_ways false refl h)
closed_for Closed h = refl
closed_for Sound h = refl
closed_for Clash h = refl

-- only a sound book takes these
pub sound_for : (p : Phase) → (allowed p Form ≡ true) → p ≡ Sound
sound_for Open h = absurd (both_ways false refl h)
sound_for Closed h = absurd (both_ways false refl h)
sound_for Sound h = refl
sound_for Clash h = absurd (both_ways false refl h)

like_rule : (p : Phase) → (allowed p Strike ≡ allowed p GiveRule) × (allowed p Check ≡ allowed p GiveRule)
like_rule Open = (refl, refl)
like_rule Closed = (refl, refl)
like_rule Sound = (refl, refl)
like_rule Clash = (refl, refl)

like_form : (p : Phase) → (allowed p Cofactors ≡ allowed p Form) × (allowed p Table ≡ allowed p Form)
like_form Open = (refl, refl)
like_form Closed = (refl, refl)
like_form Sound = (refl, refl)
like_form Clash = (refl, refl)

module _ (L : Ledger) where
  pub record RuledFor (q : ℕ) (k : ℕ) (r : Row) : Type 0 where
    pub closed : is_closed L.phase ≡ true
    pub long : length r ≡ length L.terms

  pub rule_admitted : (q : ℕ) (e : Term) (k : ℕ) (r : Row) → judge_rule q L e k r ≡ None → RuledFor q k r
  rule_admitted q e k r h =
      let p = refuse_none (not (allowed L.phase GiveRule)) WrongPhase _ h in
      let p₂ = refuse_none (not (zero_past L.variables e)) (ExponentPastVariables 1) _ p.1 in
      let p₃ = refuse_none (eqb (place e (edge L)) 0) NotOnBorder _ p₂.1 in
      let p₄ = refuse_none (not (eqb (length r) (length L.terms))) WrongLength _ p₃.1 in
      record { closed = closed_for L.phase (not_false_true _ p.0); long = eqb-true _ _ (not_false_true _ p₄.0) }

  pub strike_admitted : (e : Term) → judge_strike L e ≡ None → is_closed L.phase ≡ true
  strike_admitted e h =
      let p = refuse_none (not (allowed L.phase Strike)) WrongPhase _ h in
      closed_for L.phase (sym (like_rule L.phase).0 ∙ not_false_true _ p.0)

  pub record CheckedFor (row : Row) (slots : List Entry) : Type 0 where
    pub closed : is_closed L.phase ≡ true
    pub long : length row ≡ length L.terms
    pub complete : first_place missing L.rows ≡ 0
    pub room : 2 * length L.terms + 2 ≤ length slots

  pub check_admitted : (row : Row) (slots : List Entry) → judge_check L row slots ≡ None → CheckedFor row slots
  check_admitted row slots h =
      let p = refuse_none (not (allowed L.phase Check)) WrongPhase _ h in
      let p₂ = refuse_none (not (eqb (length row) (length L.terms))) WrongLength _ p.1 in
      let p₃ = refuse_at_none (first_place missing L.rows) RuleMissing _ p₂.1 in
      let p₄ = refuse_none (ltb (length slots) (2 * length L.terms + 2)) EntriesTooShort None p₃.1 in
      record {
        closed = closed_for L.phase (sym (like_rule L.phase).1 ∙ not_false_true _ p.0);
        long = eqb-true _ _ (not_false_true _ p₂.0);
        complete = p₃.0;
        room = ltb-false _ _ p₄.0;
      }

  -- what form and cofactors know of their polynomial
  pub record FormedFor (p : Polynomial) (size : ℕ) (later : Option Refusal) : Type 0 where
    pub inside : first_place (past_variables L.variables) p ≡ 0
    pub long : size ≡ length L.terms
    pub few : length p ≤ 64
    pub low : first_place too_high p ≡ 0
    pub rest : later ≡ None

  pub pairs_admitted : (q : ℕ) (p : Polynomial) (size : ℕ) (later : Option Refusal) → judge_pairs q L p size later ≡ None → FormedFor p size later
  pairs_admitted q p size later h =
      let p₁ = refuse_at_none (first_place (past_variables L.variables) p) ExponentPastVariables _ h in
      let p₂ = refuse_none (not (eqb size (length L.terms))) WrongLength _ p₁.1 in
      let p₃ = refuse_at_none (first_place (unfit_pair q) p) CodeOutOfRange _ p₂.1 in
      let p₄ = refuse_none (ltb 64 (length p)) TooManyPairs _ p₃.1 in
      let p₅ = refuse_at_none (first_place too_high p) DegreeTooHigh later p₄.1 in
      record { inside = p₁.0; long = eqb-true _ _ (not_false_true _ p₂.0); few = ltb-false _ _ p₄.0; low = p₅.0; rest = p₅.1 }

  pub form_admitted : (q : ℕ) (p : Polynomial) (row : Row) → judge_form q L p row ≡ None → (L.phase ≡ Sound) × FormedFor p (length row) None
  form_admitted q p row h =
      let a = refuse_none (not (allowed L.phase Form)) WrongPhase _ h in
      (sound_for L.phase (not_false_true _ a.0), pairs_admitted q p (length row) None a.1)

  pub cofactors_admitted : (q : ℕ) (p : Polynomial) (row : Row) (slots : List Entry) → judge_cofactors q L p row slots ≡ None → (L.phase ≡ Sound) × FormedFor p (length row) None × (length L.terms * degrees p ≤ length slots)
  cofactors_admitted q p row slots h =
      let a = refuse_none (not (allowed L.phase Cofactors)) WrongPhase _ h in
      let b = pairs_admitted q p (length row) (refuse (ltb (length slots) (length L.terms * degrees p)) EntriesTooShort None) a.1 in
      let c = refuse_none (ltb (length slots) (length L.terms * degrees p)) EntriesTooShort None b.rest in (
        sound_for L.phase (sym (like_form L.phase).0 ∙ not_false_true _ a.0),
        record { inside = b.inside; long = b.long; few = b.few; low = b.low; rest = refl },
        ltb-false _ _ c.0,
      )

  pub table_admitted : (i : ℕ) (t : Row) → judge_table L i t ≡ None → (L.phase ≡ Sound) × (length t ≡ length L.terms * length L.terms) × (1 ≤ i) × (i ≤ L.variables)
  table_admitted i t h =
      let a = refuse_none (not (allowed L.phase Table)) WrongPhase _ h in
      let b = refuse_none (not (eqb (length t) (length L.terms * length L.terms))) WrongLength _ a.1 in
      let c = refuse_none (not (leb 1 i && leb i L.variables)) NoSuchVariable None b.1 in
      let d = and_parts (leb 1 i) (leb i L.variables) (not_false_true _ c.0) in
      (sound_for L.phase (sym (like_form L.phase).1 ∙ not_false_true _ a.0), eqb-true _ _ (not_false_true _ b.0), leb-true _ _ d.0, leb-true _ _ d.1)

-- a sound book, and a book that may be checked, lack no rule
pub sound_ready : (k : Contents) → kept k ≡ true → k.phase ≡ Sound → ready k ≡ true
sound_ready k h e =
    let c = (facts k h).is_complete in
    let s = subst (λ (p : Phase). complete_in p (terms_of k) (rows_of k) ≡ true) e c in
    and_from (is_closed k.phase) _ (ap is_closed e) (and_parts (leb 1 (length (terms_of k))) _ s).1

pub check_ready : (k : Contents) (row : Row) (slots : List Entry) → judge_check (ledger k) row slots ≡ None → ready k ≡ true
check_ready k row slots h =
    let a = check_admitted (ledger k) row slots h in
    and_from (is_closed k.phase) _ a.closed (eq-eqb _ 0 a.complete)
