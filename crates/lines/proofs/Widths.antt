-- How long a line is at the most. Assumes nothing.
use Rattle.std.proofs.Common.{ℕ, suc, ◌+◌, ◌*◌, ◌^◌, ◌<◌, ◌≤◌, Bool, true, false, List, [], ◌∷◌, ◌++◌, length, get_or, codes, arith, length-append}
use Rattle.std.proofs.lemmas.Fmt.{length-decimal-le}
use Rattle.lines.specs.Line.{spaced, all_spaced, three, member_word, text, clash, form}

spaced_within : (n : ℕ) → n < 2 ^ 64 → length (spaced n) ≤ 21
spaced_within n h = let d = length-decimal-le 20 n (omega arith) (omega arith) h in omega (arith, d)

all_spaced_within : (v : List ℕ) → ((i : ℕ) → get_or v i 0 < 2 ^ 16) → length (all_spaced v) ≤ 21 * length v
all_spaced_within [] h = omega arith
all_spaced_within (c ∷ v) h =
    let first = spaced_within c (omega (arith, h 0)) in
    let others = all_spaced_within v (λ i. h (suc i)) in
    omega (arith, first, others, length-append (spaced c) (all_spaced v))

word_within : (m : Bool) → length (member_word m) ≤ 7
word_within true = omega arith
word_within false = omega arith

pub form_within : (v : List ℕ) (m : Bool) (n : ℕ) → ((i : ℕ) → get_or v i 0 < 2 ^ 16) → n < 2 ^ 64 → length (text (form v m n)) ≤ 80 + 21 * length v
form_within v m n h l =
    let all = all_spaced_within v h in
    let last = spaced_within n l in
    let word = word_within m in
    omega (
      arith,
      all,
      last,
      word,
      length-append (codes "form") (all_spaced v ++ (member_word m ++ (spaced n ++ codes "\n"))),
      length-append (all_spaced v) (member_word m ++ (spaced n ++ codes "\n")),
      length-append (member_word m) (spaced n ++ codes "\n"),
      length-append (spaced n) (codes "\n"),
    )

pub clash_within : (t a b : ℕ) → t < 2 ^ 64 → a < 2 ^ 64 → b < 2 ^ 64 → length (text (clash t a b)) ≤ 80
clash_within t a b x y z =
    let p = spaced_within t x in
    let q = spaced_within a y in
    let r = spaced_within b z in
    omega (
      arith,
      p,
      q,
      r,
      length-append (codes "check clash") (three t a b),
      length-append (spaced t) (spaced a ++ (spaced b ++ codes "\n")),
      length-append (spaced a) (spaced b ++ codes "\n"),
      length-append (spaced b) (codes "\n"),
    )
