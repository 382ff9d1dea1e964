use Rattle.lines.proofs.text.+say_decimal.Given as goal

abbrev pub decreases-say_decimal : goal.decreases-say_decimal
decreases-say_decimal g l = l.n
