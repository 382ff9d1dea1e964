-- What a granted or refused judgement says. Assumes nothing.
use Rattle.std.proofs.Common.{◌≡◌, ℕ, zero, suc, Bool, true, false, not, Some, None, Ok, Err, Option, Result, sym, refl, ap, arith}
use Rattle.book.specs.declared.refusal.Refusal.{Refusal}
use Rattle.book.specs.Judge.{refuse, refuse_at, granted, on_grant}

pub none_from : {V : Type 0} (o : Option Refusal) (v w : V) → granted o v ≡ Ok w → o ≡ None
none_from None v w e = refl
none_from (Some r) v w e = let z : ◌≡◌ {A = ℕ} 0 1 = cc in absurd (omega arith)

pub some_from : {V : Type 0} (o : Option Refusal) (v : V) (r : Refusal) → granted o v ≡ Err r → o ≡ Some r
some_from None v r e = let z : ◌≡◌ {A = ℕ} 0 1 = cc in absurd (omega arith)
some_from (Some s) v r e = let z : s ≡ r = cc in ap Some z

-- a chain that refuses nothing: its first cause does not apply, and the rest refuses nothing
pub refuse_none : (b : Bool) (r : Refusal) (later : Option Refusal) → refuse b r later ≡ None → (b ≡ false) × (later ≡ None)
refuse_none true r later e = let z : ◌≡◌ {A = ℕ} 0 1 = cc in absurd (omega arith)
refuse_none false r later e = (refl, e)

pub refuse_at_none : (k : ℕ) (r : ℕ → Refusal) (later : Option Refusal) → refuse_at k r later ≡ None → (k ≡ 0) × (later ≡ None)
refuse_at_none zero r later e = (refl, e)
refuse_at_none (suc k) r later e = let z : ◌≡◌ {A = ℕ} 0 1 = cc in absurd (omega arith)

pub not_false_true : (b : Bool) → not b ≡ false → b ≡ true
not_false_true true e = refl
not_false_true false e = sym e

-- the same refusal answered with another value
pub refused_other : {V W : Type 0} (o : Option Refusal) (r : Refusal) (v : V) (w : W) → ◌≡◌ {A = Result V Refusal} (Err r) (granted o v) → ◌≡◌ {A = Result W Refusal} (Err r) (granted o w)
refused_other o r v w e = sym (ap (λ (x : Option Refusal). granted x w) (some_from o v r (sym e)))

-- a refusal is answered whatever the value would have been, and leaves what was there
pub refused_answer : {V : Type 0} (o : Option Refusal) (r : Refusal) → ◌≡◌ {A = Result (Unit {0}) Refusal} (Err r) (granted o tt) → (v : V) → ◌≡◌ {A = Result V Refusal} (Err r) (granted o v)
refused_answer o r e v = refused_other o r tt v e

pub refused_stays : {V X : Type 0} (o : Option Refusal) (r : Refusal) (v : V) → Err r ≡ granted o v → (new old : X) → old ≡ on_grant o new old
refused_stays o r v e new old = sym (ap (λ (x : Option Refusal). on_grant x new old) (some_from o v r (sym e)))

pub value_from : {V : Type 0} (o : Option Refusal) (v w : V) → granted o v ≡ Ok w → v ≡ w
value_from None v w e = cc
value_from (Some r) v w e = let z : ◌≡◌ {A = ℕ} 0 1 = cc in absurd (omega arith)

-- a granted call leaves the new
pub granted_now : {X : Type 0} (o : Option Refusal) → o ≡ None → (new old : X) → new ≡ on_grant o new old
granted_now o e new old = sym (ap (λ (x : Option Refusal). on_grant x new old) e)
