-- How the digits of a number are read one by one, and the words of a request compared. Assumes nothing.
use Rattle.std.proofs.Common.{◌≡◌, ℕ, ◌+◌, ◌-◌, ◌*◌, ◌<◌, min, Bool, true, false, cond, List, [], ◌∷◌, length, Some, None, Err, Option, sym, refl, ap, ◌∙◌, Bor, Iter, codes, get_or, arith}
use Rattle.std.proofs.lemmas.List.{nil_from_length}
use Rattle.std.proofs.lemmas.Fn.{fronts}
use Rattle.std.specs.ControlFlow.{continue_value}
use Rattle.std.specs.Fn.{Called}
use Rattle.std.specs.Iterator.{TryFoldsItems, TryFoldTurn, Yields}
use Rattle.std.specs.List.{FoldsTo}
use Rattle.std.specs.Option.{MatchOption}
use Rattle.std.specs.declared.ops.ControlFlow.{ControlFlow}
use denote.Param.Members.{Mut}
use Rattle.tables.specs.Request.{is_digit, digits_on, decimal_number, of_kind, with_number}
use Rattle.tables.specs.declared.request.RequestError.TheVariants.{NoPair}

-- a byte read after the number so far, which is none where the byte is no digit
abbrev pub with_digit : ℕ → ℕ → Option ℕ
with_digit n b = cond (is_digit b) (Some (min (10 * n + (b - 48)) 65535)) None

on : (n b : ℕ) (bs : List ℕ) (m : ℕ) → Some m ≡ with_digit n b → digits_on m bs ≡ digits_on n (b ∷ bs)
on n b bs m e = go (is_digit b) e
  where
    go : (d : Bool) → Some m ≡ cond d (Some (min (10 * n + (b - 48)) 65535)) None → digits_on m bs ≡ cond d (digits_on (min (10 * n + (b - 48)) 65535) bs) None
    go true h = let same : m ≡ min (10 * n + (b - 48)) 65535 = cc in ap (λ i. digits_on i bs) same
    go false h = cc

off : (n b : ℕ) (bs : List ℕ) → None ≡ with_digit n b → None ≡ digits_on n (b ∷ bs)
off n b bs e = go (is_digit b) e
  where
    go : (d : Bool) → None ≡ cond d (Some (min (10 * n + (b - 48)) 65535)) None → None ≡ cond d (digits_on (min (10 * n + (b - 48)) 65535) bs) None
    go true h = cc
    go false h = refl

-- bytes read in turn, as long as each is a digit, are read as `digits_on` says
module _ (E : Type 0) {F : Type 0} (g : Mut F (ℕ × (Bor ℕ × Unit {0})) (Option ℕ)) (reads : (f : F) (n : ℕ) (b : Bor ℕ) (v : Option ℕ) (h : F) → Called g f (n, (b, tt)) v h → v ≡ with_digit n b.now) (r : Option ℕ) where
  folded : (s t u : Iter ℕ) (f f' : F) (n m : ℕ) (bs : List (Bor ℕ)) (o : Option (Bor ℕ)) → Yields fronts s bs t → fronts t o u → FoldsTo {P = F × ℕ} (TryFoldTurn g (λ v (c : ControlFlow E ℕ). v ≡ continue_value c)) (f, n) bs (f', m)
      → MatchOption o (r ≡ Some m) (λ b. (v : Option ℕ) × (h : F) × (e : E) × Called g f' (m, (b, tt)) v h × (v ≡ None) × (r ≡ None)) → r ≡ digits_on n s.rest.now
  folded s t u f f' n m [] None e d k end =
      let same : n ≡ m = ap (λ (p : F × ℕ). p.1) k in
      let empty : s.rest.now ≡ [] = nil_from_length s.rest.now (ap (λ (i : Iter ℕ). length i.rest.now) e ∙ d.0) in
      end ∙ ap Some (sym same) ∙ ap (digits_on n) (sym empty)
  folded s t u f f' n m [] (Some b) e d k end =
      let same : n ≡ m = ap (λ (p : F × ℕ). p.1) k in
      let front : s.rest.now ≡ b.now ∷ u.rest.now = ap (λ (i : Iter ℕ). i.rest.now) e ∙ d in
      end.5 ∙ off n b.now u.rest.now (sym end.4 ∙ reads f' m b end.0 end.1 end.3 ∙ ap (λ i. with_digit i b.now) (sym same)) ∙ ap (digits_on n) (sym front)
  folded s t u f f' n m (b ∷ bs) o e d k end =
      folded e.0 t u k.0.0 f' k.0.1 m bs o e.2 d k.2 end
      ∙ on n b.now e.0.rest.now k.0.1 (sym k.1.2 ∙ reads f n b k.1.0 k.0.0 k.1.1)
      ∙ ap (digits_on n) (sym e.1)

  pub digits_folded : (s u : Iter ℕ) (f : F) (n : ℕ) → TryFoldsItems fronts g (λ v (c : ControlFlow E ℕ). v ≡ continue_value c) (λ _ v. v ≡ None) s f n r u → r ≡ digits_on n s.rest.now
  digits_folded s u f n h = folded s h.4.0 u f h.2 n h.3 h.0 h.1 h.4.1 h.4.2 h.5 h.6

-- some bytes are read as digits, and none are no number
pub some_digits : (xs : List ℕ) → 0 < length xs → decimal_number xs ≡ digits_on 0 xs
some_digits [] h = absurd (omega arith)
some_digits (b ∷ bs) h = refl

-- a line without a word before its space is no pair
pub no_word : (word : List ℕ) (o : Option ℕ) → length word ≡ 0 → with_number word o ≡ Err NoPair
no_word [] o h = refl
no_word (b ∷ bs) o h = absurd (omega arith)

-- nor is a line without a number after it
pub no_number : (word : List ℕ) → with_number word None ≡ Err NoPair
no_number [] = refl
no_number (b ∷ bs) = refl

-- a word and a number are a pair
pub pair : (word : List ℕ) (n : ℕ) → 0 < length word → with_number word (Some n) ≡ of_kind word n
pair [] n h = absurd (omega arith)
pair (b ∷ bs) n h = refl

-- the six bytes of a word
pub is_binary : (w : List ℕ) → length w ≡ 6 → get_or w 0 0 ≡ 98 → get_or w 1 0 ≡ 105 → get_or w 2 0 ≡ 110 → get_or w 3 0 ≡ 97 → get_or w 4 0 ≡ 114 → get_or w 5 0 ≡ 121 → w ≡ codes "binary"
is_binary (x0 ∷ x1 ∷ x2 ∷ x3 ∷ x4 ∷ x5 ∷ []) l h0 h1 h2 h3 h4 h5 = cc
is_binary _ l h0 h1 h2 h3 h4 h5 = absurd (omega arith)
