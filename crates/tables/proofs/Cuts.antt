-- What `cut` gives, in the words of a request and of a text. Assumes nothing.
use Rattle.std.proofs.Common.{◌≡◌, ℕ, suc, ◌+◌, ◌<◌, ◌≤◌, Bool, true, false, cond, not, List, [], ◌∷◌, length, take, drop, refl, ap, sym, ◌∙◌, ◌==◌, arith, add-one, add_comm}
use Rattle.std.specs.List.{position_or_len, before_first, after_first}
use Rattle.tables.specs.Request.{first_word, after_word}
use Rattle.tables.specs.Text.{extend, lines}

-- a cut, one byte further
before_step : (m b : ℕ) (bs : List ℕ) → before_first (λ x. x == m) (b ∷ bs) ≡ cond (b == m) [] (b ∷ before_first (λ x. x == m) bs)
before_step m b bs = go (b == m) (position_or_len (λ x. x == m) bs)
  where
    go : (t : Bool) (n : ℕ) → take (cond (not t) (1 + n) 0) (b ∷ bs) ≡ cond t [] (b ∷ take n bs)
    go true n = refl
    go false n = ap (λ k. take k (b ∷ bs)) (add_comm 1 n ∙ add-one n)

after_step : (m b : ℕ) (bs : List ℕ) → after_first (λ x. x == m) (b ∷ bs) ≡ cond (b == m) bs (after_first (λ x. x == m) bs)
after_step m b bs = go (b == m) (position_or_len (λ x. x == m) bs)
  where
    go : (t : Bool) (n : ℕ) → drop (cond (not t) (1 + n) 0 + 1) (b ∷ bs) ≡ cond t bs (drop (n + 1) bs)
    go true n = refl
    go false n = let more : 1 + n + 1 ≡ suc (n + 1) = omega arith in ap (λ k. drop k (b ∷ bs)) more

-- the word before the first space, and what follows it
pub word_before : (xs : List ℕ) → before_first (λ b. b == 32) xs ≡ first_word xs
word_before [] = refl
word_before (b ∷ bs) = before_step 32 b bs ∙ ap (λ ys. cond (b == 32) [] (b ∷ ys)) (word_before bs)

pub word_after : (xs : List ℕ) → after_first (λ b. b == 32) xs ≡ after_word xs
word_after [] = refl
word_after (b ∷ bs) = after_step 32 b bs ∙ ap (λ ys. cond (b == 32) bs ys) (word_after bs)

-- under one more byte
longer_line : (b : ℕ) (xs : List ℕ) → extend b (lines xs) ≡ (b ∷ before_first (λ x. x == 10) xs) ∷ lines (after_first (λ x. x == 10) xs)
longer_line b [] = refl
longer_line b (x ∷ xs) = go (x == 10) (longer_line x xs) ∙ (λ i. (b ∷ sym (before_step 10 x xs) i) ∷ lines (sym (after_step 10 x xs) i))
  where
    go : (t : Bool) → extend x (lines xs) ≡ (x ∷ before_first (λ y. y == 10) xs) ∷ lines (after_first (λ y. y == 10) xs)
        → extend b (cond t ([] ∷ lines xs) (extend x (lines xs))) ≡ (b ∷ cond t [] (x ∷ before_first (λ y. y == 10) xs)) ∷ lines (cond t xs (after_first (λ y. y == 10) xs))
    go true h = refl
    go false h = ap (extend b) h

-- the first line of a text, and the lines after it
pub first_line : (xs : List ℕ) → 0 < length xs → lines xs ≡ before_first (λ x. x == 10) xs ∷ lines (after_first (λ x. x == 10) xs)
first_line [] some = absurd (omega arith)
first_line (b ∷ bs) some = go (b == 10) (longer_line b bs) ∙ (λ i. sym (before_step 10 b bs) i ∷ lines (sym (after_step 10 b bs) i))
  where
    go : (t : Bool) → extend b (lines bs) ≡ (b ∷ before_first (λ x. x == 10) bs) ∷ lines (after_first (λ x. x == 10) bs)
        → cond t ([] ∷ lines bs) (extend b (lines bs)) ≡ cond t [] (b ∷ before_first (λ x. x == 10) bs) ∷ lines (cond t bs (after_first (λ x. x == 10) bs))
    go true h = refl
    go false h = h

-- there are no more lines than bytes
lines_few_under : (b : ℕ) (ls : List (List ℕ)) (n : ℕ) → length ls ≤ n → length (extend b ls) ≤ n + 1
lines_few_under b [] n h = omega arith
lines_few_under b (l ∷ ls) n h = omega arith

pub lines_few : (xs : List ℕ) → length (lines xs) ≤ length xs
lines_few [] = omega arith
lines_few (b ∷ bs) = go (b == 10) (lines_few bs)
  where
    go : (t : Bool) → length (lines bs) ≤ length bs → length (cond t ([] ∷ lines bs) (extend b (lines bs))) ≤ suc (length bs)
    go true h = omega arith
    go false h = omega (arith, lines_few_under b (lines bs) (length bs) h)
