-- What writing entries into slots leaves. Assumes nothing.
use Rattle.std.proofs.Common.{◌≡◌, suc, ◌<◌, ◌≤◌, ltb, List, [], ◌∷◌, ◌++◌, length, drop, sym, refl, ap, ◌∙◌, append_assoc, append-nil, arith, length-append}
use Rattle.std.proofs.lemmas.List.{set_at}
use Rattle.std.proofs.lemmas.Bool.{cond-true, lt-ltb}
use Rattle.algebra.specs.declared.Entry.{Entry}
use Rattle.row.specs.Listing.{Listed, listing, listed_one, listed_all}

pub listed_all_append : (l : Listed) (es fs : List Entry) → listed_all l (es ++ fs) ≡ listed_all (listed_all l es) fs
listed_all_append l [] fs = refl
listed_all_append l (e ∷ es) fs = listed_all_append (listed_one l e) es fs

-- one entry after those that are there
listed_next : (before after : List Entry) (old e : Entry) → listed_one (listing (before ++ old ∷ after) (length before)) e ≡ listing ((before ++ e ∷ []) ++ after) (length (before ++ e ∷ []))
listed_next before after old e =
    let room : length before < length (before ++ old ∷ after) = omega (arith, length-append before (old ∷ after)) in
    let more : suc (length before) ≡ length (before ++ e ∷ []) = omega (arith, length-append before (e ∷ [])) in
    cond-true (ltb (length before) (length (before ++ old ∷ after))) _ _ (lt-ltb _ _ room)
    ∙ (λ i. listing ((set_at before old after e (length before) refl ∙ sym (append_assoc before (e ∷ []) after)) i) (more i))

listed_after : (before after es : List Entry) → length es ≤ length after → listed_all (listing (before ++ after) (length before)) es ≡ listing ((before ++ es) ++ drop (length es) after) (length (before ++ es))
listed_after before after [] l = ap (λ (x : List Entry). listing (x ++ after) (length x)) (sym (append-nil before))
listed_after before [] (e ∷ es) l = absurd (omega arith)
listed_after before (old ∷ after) (e ∷ es) l =
    ap (λ (x : Listed). listed_all x es) (listed_next before after old e)
    ∙ listed_after (before ++ e ∷ []) after es (omega arith)
    ∙ ap (λ (x : List Entry). listing (x ++ drop (length es) after) (length x)) (append_assoc before (e ∷ []) es)

-- entries that all have a slot
pub listed_whole : (slots : List Entry) (es : List Entry) → length es ≤ length slots → listed_all (record { slots = slots; count = 0 }) es ≡ record { slots = es ++ drop (length es) slots; count = length es }
listed_whole slots es l = listed_after [] slots es l
