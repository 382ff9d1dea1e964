-- What the stored contents of a book stand for, and what they keep. Assumes nothing.
use Rattle.std.specs.Prelude.{ℕ, zero, suc, Bool, true, false, ◌&&◌, List, [], ◌∷◌, length, take, Some, None, Option, ◌==◌, nat_le, slice_index_or}
use Rattle.std.specs.Option.{option_map}
use Rattle.algebra.specs.Term.{Term, same}
use Rattle.algebra.specs.Border.{Row, connected, border}
use Rattle.row.specs.declared.lead.Lead.{Lead}
use Rattle.row.specs.declared.lead.Lead.TheVariants.{Inside, OnBorder}
use Rattle.term.specs.Search.{first_place}
use Rattle.book.specs.declared.contents.Contents.{Contents}
use Rattle.book.specs.declared.phase.Phase.{Phase}
use Rattle.book.specs.declared.phase.Phase.TheVariants.{Open, Closed, Sound, Clash}
use Rattle.book.specs.Judge.{missing}
use Rattle.book.specs.Ledger.{Ledger}
use Rattle.book.specs.Leading.{leads_of}

abbrev pub terms_of : Contents → List Term
terms_of k = k.basis.terms

abbrev pub border_of : Contents → List Term
border_of k = k.border.terms

-- the first D codes of each row
abbrev pub kept_rows : ℕ → List (Option Row) → List (Option Row)
kept_rows D [] = []
kept_rows D (o ∷ os) = option_map (take D) o ∷ kept_rows D os

abbrev pub rows_of : Contents → List (Option Row)
rows_of k = kept_rows (length (terms_of k)) (take (length (border_of k)) k.rules.rows)

-- the ledger that the contents stand for
abbrev pub ledger : Contents → Ledger
ledger k = record { variables = k.basis.variables; terms = terms_of k; phase = k.phase; rows = rows_of k }

abbrev pub terms_fit : ℕ → List Term → Bool
terms_fit n [] = true
terms_fit n (t ∷ ts) = connected n (t ∷ ts)

abbrev pub same_terms : List Term → List Term → Bool
same_terms [] [] = true
same_terms [] (u ∷ us) = false
same_terms (t ∷ ts) [] = false
same_terms (t ∷ ts) (u ∷ us) = same t u && same_terms ts us

-- an open book has no border yet
abbrev pub border_in : Phase → ℕ → List Term → List Term
border_in Open n S = []
border_in Closed n S = border n S
border_in Sound n S = border n S
border_in Clash n S = border n S

abbrev pub same_lead : Lead → Lead → Bool
same_lead (Inside a) (Inside b) = a == b
same_lead (Inside a) (OnBorder b) = false
same_lead (OnBorder a) (Inside b) = false
same_lead (OnBorder a) (OnBorder b) = a == b

abbrev pub begins : List Lead → List Lead → Bool
begins [] ms = true
begins (l ∷ ls) [] = false
begins (l ∷ ls) (m ∷ ms) = same_lead l m && begins ls ms

-- the columns of the n variables from i on begin with their leads
abbrev pub led : List Term → List Term → ℕ → ℕ → List (List Lead) → Bool
led S E i zero columns = true
led S E i (suc n) columns = begins (leads_of S E i S) (slice_index_or columns i []) && led S E (suc i) n columns

abbrev pub led_in : Phase → List Term → List Term → ℕ → List (List Lead) → Bool
led_in Open S E n columns = true
led_in Closed S E n columns = led S E 0 n columns
led_in Sound S E n columns = led S E 0 n columns
led_in Clash S E n columns = led S E 0 n columns

-- an open book has no terms only where it is open, and a sound one lacks no rule
abbrev pub complete_in : Phase → List Term → List (Option Row) → Bool
complete_in Open S rows = true
complete_in Closed S rows = nat_le 1 (length S)
complete_in Sound S rows = nat_le 1 (length S) && first_place missing rows == 0
complete_in Clash S rows = nat_le 1 (length S)

-- every row has 32 codes
abbrev pub all_long : List (Option Row) → Bool
all_long [] = true
all_long (None ∷ os) = all_long os
all_long (Some r ∷ os) = length r == 32 && all_long os

abbrev pub all_true : List Bool → Bool
all_true [] = true
all_true (b ∷ bs) = b && all_true bs

-- what the contents keep beside their bounds; proofs go by the facts, and seldom open it
unfoldable pub coherent : Contents → Bool
coherent k =
    all_true
    (terms_fit k.basis.variables (terms_of k) ∷ same_terms (border_of k) (border_in k.phase k.basis.variables (terms_of k))
    ∷ led_in k.phase (terms_of k) (border_of k) k.basis.variables k.border.leads.columns ∷ complete_in k.phase (terms_of k) (rows_of k) ∷ all_long k.rules.rows ∷ (length k.rules.rows == 256) ∷ [])

abbrev pub kept : Contents → Bool
kept k =
    all_true (nat_le 1 k.basis.variables ∷ nat_le k.basis.variables 8 ∷ nat_le (length (terms_of k)) 32 ∷ nat_le (length (border_of k)) 256 ∷ coherent k ∷ [])

-- the border is laid
abbrev pub is_closed : Phase → Bool
is_closed Open = false
is_closed Closed = true
is_closed Sound = true
is_closed Clash = true

-- a closed book that lacks no rule
abbrev pub ready : Contents → Bool
ready k = is_closed k.phase && first_place missing (rows_of k) == 0
