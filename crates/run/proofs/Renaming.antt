-- The answers and slices of calls under the names of a run. Assumes nothing.
use Rattle.std.proofs.Common.{◌≡◌, Some, None, Ok, Err, Option, Result, IsOkAnd, MatchResult, refl, ap, ◌∙◌}
use Rattle.book.specs.declared.refusal.Refusal.{Refusal}
use Rattle.book.specs.Judge.{granted, on_grant}
use Rattle.run.specs.declared.call.Answer.{Answer}
use Rattle.run.specs.Calls.{renamed}

renamed_from : {V : Type 0} (f : V → Answer) (P : V → Answer → Type 0) (gives : (x : V) (y : Answer) → P x y → y ≡ f x) (r : Result V Refusal) (a : Result Answer Refusal) → MatchResult r (λ x. IsOkAnd a (P x)) (λ e. a ≡ Err e) → a ≡ renamed f r
renamed_from f P gives (Ok x) (Ok y) m = ap (λ (z : Answer). Ok z) (gives x y m)
renamed_from f P gives (Ok x) (Err e) m = absurd m
renamed_from f P gives (Err e) a m = m

renamed_granted : {V : Type 0} (f : V → Answer) (o : Option Refusal) (v : V) → renamed f (granted o v) ≡ granted o (f v)
renamed_granted f None v = refl
renamed_granted f (Some r) v = refl

-- a result that was granted or refused, under another name
pub mapped_is : {V : Type 0} (f : V → Answer) (P : V → Answer → Type 0) (gives : (x : V) (y : Answer) → P x y → y ≡ f x) (o : Option Refusal) (v : V) (r : Result V Refusal) (a : Result Answer Refusal) → MatchResult r (λ x. IsOkAnd a (P x)) (λ e. a ≡ Err e) → r ≡ granted o v → a ≡ granted o (f v)
mapped_is f P gives o v r a m g = renamed_from f P gives r a m ∙ ap (renamed f) g ∙ renamed_granted f o v

-- what is left part by part is left as a whole
pub on_grant_one : {X Z : Type 0} (f : X → Z) (o : Option Refusal) (x y z : X) → z ≡ on_grant o x y → f z ≡ on_grant o (f x) (f y)
on_grant_one f o x y z e = ap f e ∙ go o
  where
    go : (o : Option Refusal) → f (on_grant o x y) ≡ on_grant o (f x) (f y)
    go None = refl
    go (Some r) = refl

pub on_grant_two : {X Y Z : Type 0} (f : X → Y → Z) (o : Option Refusal) (x x' x'' : X) (y y' y'' : Y) → x'' ≡ on_grant o x x' → y'' ≡ on_grant o y y' → f x'' y'' ≡ on_grant o (f x y) (f x' y')
on_grant_two f o x x' x'' y y' y'' e d = (λ i. f (e i) (d i)) ∙ go o
  where
    go : (o : Option Refusal) → f (on_grant o x x') (on_grant o y y') ≡ on_grant o (f x y) (f x' y')
    go None = refl
    go (Some r) = refl

pub on_grant_same : {X : Type 0} (o : Option Refusal) (x : X) → x ≡ on_grant o x x
on_grant_same None x = refl
on_grant_same (Some r) x = refl
