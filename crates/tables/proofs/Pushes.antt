-- What is displayed into an output stands at its end. Assumes nothing.
use Rattle.std.proofs.Common.{◌≡◌, ℕ, List, ◌++◌, Some, None, Option, IfSome, vec_items}
use Rattle.std.specs.Fmt.{WritesText}
use Rattle.std.proofs.lemmas.Fmt.{contents_after_writes}
use Rattle.tables.specs.declared.text.Output.{Output}

pub appended : (o : Option (List ℕ)) (s t : Output) → WritesText (λ s bs t. vec_items t.0 ≡ vec_items s.0 ++ bs) s o t → IfSome o (λ bs. vec_items t.0 ≡ vec_items s.0 ++ bs)
appended None s t h = tt
appended (Some bs) s t h = contents_after_writes (λ s bs t. vec_items t.0 ≡ vec_items s.0 ++ bs) (λ w. vec_items w.0) (λ w cs v e. e) s bs t h
