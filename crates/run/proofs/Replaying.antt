-- What a replay holds after some of its lines. Assumes nothing.
use Rattle.std.proofs.Common.{◌≡◌, ℕ, ◌+◌, ◌<◌, ◌≤◌, List, [], ◌∷◌, ◌++◌, length, get_or, take, drop, set, Some, Option, Result, sym, refl, ap, ◌∙◌, append_assoc, append-nil, arith}
use Rattle.std.proofs.lemmas.List.{drop_more, drop_all, take_all, take_more_set, drop-set-lt}
use Rattle.field.specs.Arithmetic.{Arithmetic}
use Rattle.book.specs.declared.refusal.Refusal.{Refusal}
use Rattle.book.specs.Ledger.{Ledger, new_ledger}
use Rattle.run.specs.declared.call.Answer.{Answer}
use Rattle.run.specs.declared.call.Call.{Call}
use Rattle.run.specs.declared.call.Line.{Line}
use Rattle.run.specs.Calls.{Step, step_of, answer, next, finish}
use Rattle.run.specs.Runs.{run}
use Rattle.run.specs.Lines.{steps_of, noted, listed}

-- the lines before j are noted, those from j on are as they were, and L is the ledger of the calls before j
pub record Replaying (A : Arithmetic) (before after : List Line) (j : ℕ) (L : Ledger) : Type 0 where
  pub rest : drop j after ≡ drop j before
  pub done : noted (take j after) ++ listed (run A L (steps_of (drop j before))) ≡ listed (run A new_ledger (steps_of before))

noted_append : (ls ms : List Line) → noted (ls ++ ms) ≡ noted ls ++ noted ms
noted_append [] ms = refl
noted_append (l ∷ ls) ms = ap (λ (xs : List (Step × Option (Result Answer Refusal))). (step_of l.call, l.answer) ∷ xs) (noted_append ls ms)

pub replaying_new : (A : Arithmetic) (ls : List Line) (L : Ledger) → L ≡ new_ledger → Replaying A ls ls 0 L
replaying_new A ls L e = record { rest = refl; done = ap (λ (M : Ledger). listed (run A M (steps_of ls))) e }

module _ (A B : Arithmetic) (before after : List Line) (j : ℕ) (d : Line) (call : Call) (r : Result Answer Refusal) (L M : Ledger) where
  pub replaying_more : j < length before → length after ≡ length before → B ≡ A → Replaying A before after j L → r ≡ answer B L (step_of (get_or after j d).call) → M ≡ next B L (step_of (get_or after j d).call) → step_of call ≡ finish B L (step_of (get_or after j d).call) → Replaying A before (set after j (record { call = call; answer = Some r })) (j + 1) M
  replaying_more h long field inv said then wrote =
      let line : Line = record { call = call; answer = Some r } in
      let split : drop j before ≡ get_or before j d ∷ drop (j + 1) before = drop_more before j d h in
      let halves : get_or after j d ∷ drop (j + 1) after ≡ get_or before j d ∷ drop (j + 1) before = sym (drop_more after j d (omega arith)) ∙ inv.rest ∙ split in
      let same : get_or after j d ≡ get_or before j d = ap (λ (ls : List Line). get_or ls 0 d) halves in
      let s = step_of (get_or before j d).call in
      let on : step_of (get_or after j d).call ≡ s = ap (λ (l : Line). step_of l.call) same in
      let first : noted (line ∷ []) ++ listed (run A M (steps_of (drop (j + 1) before))) ≡ listed (run A L (steps_of (drop j before))) =
      (λ i. ((wrote ∙ (λ k. finish (field k) L (on k))) i, Some ((said ∙ (λ k. answer (field k) L (on k))) i)) ∷ listed (run A ((then ∙ (λ k. next (field k) L (on k))) i) (steps_of (drop (j + 1) before))))
      ∙ ap (λ (ls : List Line). listed (run A L (steps_of ls))) (sym split) in
      record {
        rest = drop-set-lt (j + 1) after j line (omega arith) ∙ ap (drop 1) halves;
        done =
            ap (λ (ls : List Line). noted ls ++ listed (run A M (steps_of (drop (j + 1) before)))) (take_more_set after j line (omega arith))
            ∙ ap (λ (xs : List (Step × Option (Result Answer Refusal))). xs ++ listed (run A M (steps_of (drop (j + 1) before)))) (noted_append (take j after) (line ∷ []))
            ∙ append_assoc (noted (take j after)) (noted (line ∷ [])) (listed (run A M (steps_of (drop (j + 1) before))))
            ∙ ap (λ (xs : List (Step × Option (Result Answer Refusal))). noted (take j after) ++ xs) first
            ∙ inv.done;
      }

pub replaying_all : (A : Arithmetic) (before after : List Line) (j : ℕ) (L : Ledger) → length before ≤ j → length after ≡ length before → Replaying A before after j L → noted after ≡ listed (run A new_ledger (steps_of before))
replaying_all A before after j L h long inv =
    sym (append-nil (noted after))
    ∙ ap (λ (ls : List Line). noted ls ++ []) (sym (take_all j after (omega arith)))
    ∙ ap (λ (ls : List Line). noted (take j after) ++ listed (run A L (steps_of ls))) (sym (drop_all j before h))
    ∙ inv.done
