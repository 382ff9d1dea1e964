-- What a sink has taken of a text whose pieces come one after another. Assumes nothing.
use Rattle.std.proofs.Common.{◌≡◌, ℕ, ◌+◌, ◌%◌, ◌<◌, ◌≤◌, List, [], ◌∷◌, ◌++◌, length, get_or, drop, decimal, refl, subst, sym, ap, ◌∙◌, append_assoc, append-nil, add-one, drop-cons, arith, length-append}
use Rattle.std.proofs.lemmas.Fmt.{decimal_digit}
use Rattle.lines.specs.Line.{spaced, all_spaced}
use Rattle.lines.specs.Sink.{SinkLaws}

-- a sink had room for the whole text, and has taken it but for what is left
pub record Along {S : Type 0} (fits : S → ℕ → Type 0) (took : S → List ℕ → S → Type 0) (s : S) (whole : List ℕ) (t : S) (left : List ℕ) : Type 0 where
  front : List ℕ
  is : whole ≡ front ++ left
  room : fits s (length whole)
  taken : took s front t

module _ {S : Type 0} {fits : S → ℕ → Type 0} {took : S → List ℕ → S → Type 0} (laws : SinkLaws fits took) where
  pub begun : (s : S) (whole : List ℕ) → fits s (length whole) → Along fits took s whole s whole
  begun s whole h = record { front = []; is = refl; room = h; taken = laws.nothing s (laws.fewer s 0 (length whole) (omega arith) h) }

  -- there is room for what is left, and for the first piece of it
  pub left_fits : {s t : S} {whole : List ℕ} (left : List ℕ) → Along fits took s whole t left → fits t (length left)
  left_fits {s} {t} left a = laws.rest s t a.front (length left) (subst (fits s) (ap length a.is ∙ length-append a.front left) a.room) a.taken

  pub piece_fits : {s t : S} {whole : List ℕ} (xs ys : List ℕ) → Along fits took s whole t (xs ++ ys) → fits t (length xs)
  piece_fits {s} {t} xs ys a = laws.fewer t (length xs) (length (xs ++ ys)) (omega (arith, length-append xs ys)) (left_fits (xs ++ ys) a)

  -- one more piece
  pub piece : {s t : S} {whole : List ℕ} (xs ys : List ℕ) (u : S) → Along fits took s whole t (xs ++ ys) → took t xs u → Along fits took s whole u ys
  piece {s} {t} {whole} xs ys u a h =
      let is : whole ≡ (a.front ++ xs) ++ ys = a.is ∙ sym (append_assoc a.front xs ys) in
      let fewer : length a.front + length xs ≤ length whole = omega (arith, ap length is, length-append (a.front ++ xs) ys, length-append a.front xs) in
      record { front = a.front ++ xs; is = is; room = a.room; taken = laws.joined s t u a.front xs (laws.fewer s _ _ fewer a.room) a.taken h }

  pub ended : {s t : S} {whole : List ℕ} → Along fits took s whole t [] → took s whole t
  ended {s} {t} a = subst (λ bs. took s bs t) (sym (a.is ∙ append-nil a.front)) a.taken

  -- the last piece
  pub last_piece : {s t : S} {whole : List ℕ} (xs : List ℕ) (u : S) → Along fits took s whole t xs → took t xs u → took s whole u
  last_piece {s} {t} {whole} xs u a h = ended (piece xs [] u (subst (Along fits took s whole t) (sym (append-nil xs)) a) h)

-- the only digit of a number
pub only_digit : (n : ℕ) → n < 10 → decimal n ≡ (48 + n % 10) ∷ []
only_digit n low = let same : 48 + n ≡ 48 + n % 10 = omega arith in decimal_digit n low ∙ ap (λ d. d ∷ []) same

-- the codes from one place on are the code there and those after it
pub codes_step : (v : List ℕ) (k : ℕ) → k < length v → all_spaced (drop k v) ≡ spaced (get_or v k 0) ++ all_spaced (drop (k + 1) v)
codes_step v k h = let more : drop k v ≡ get_or v k 0 ∷ drop (k + 1) v = rw (add-one, drop-cons v k 0) refl in ap all_spaced more
