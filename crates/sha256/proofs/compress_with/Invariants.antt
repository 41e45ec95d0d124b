-- `sha256::compress_with` meets its contract.
use Rattle.sha256.proofs.Steps.{Before}
use Rattle.sha256.proofs.compress_with.Given as goal

abbrev pub invariant-loop-turn : goal.invariant-loop-turn
invariant-loop-turn l = Before l.h l.initial.m l.turn l.v l.m
