-- `searching::look` meets its contract.
use native.Mathlib.Omega.{arith}
use lib.Pow.{pow_pos}
use Rattle.searching.proofs.Looks.{level_few, chain_there, look_passed, look_halves, look_found}
use Rattle.searching.proofs.look.Goals as goal

pub size-requires : goal.size-requires
size-requires c = level_few _ _ _ _ c.requires.0 c.args.c c.requires.1

pub tree_passes-passes-requires : goal.tree_passes-passes-requires
tree_passes-passes-requires c = chain_there _ _ _ _ c.requires.0 c.args.c c.requires.1 _ c.size.ensures

pub returns-then-passes : goal.returns-then-passes
returns-then-passes c =
    look_passed _ _ _ _ c.requires.0 c.args.c c.requires.1 _ c.size.ensures c.tree_passes-passes.ensures _ _ c.if-passes.true c.level_behind.ensures

pub returns-then-c-ne0 : goal.returns-then-c-ne0
returns-then-c-ne0 c =
    look_halves _ _ _ _ c.requires.0 c.args.c c.requires.1 _ c.size.ensures c.tree_passes-passes.ensures _ c.if-passes.false c.if-c-ne0.true

pub bounds-list-c : goal.bounds-list-c
bounds-list-c c = let w = pow_pos c.args.c.level in omega (arith, c.requires.1.room, c.requires.0.room, c.requires.2)

pub returns : goal.returns
returns c =
    look_found _ _ _ _ c.requires.0 c.args.c c.requires.1 _ c.size.ensures c.tree_passes-passes.ensures _ _ c.if-passes.false c.if-c-ne0.false
    (let w = pow_pos c.args.c.level in omega (arith, c.requires.1.room, c.requires.0.room, c.requires.2)) c.level_behind-2.ensures
