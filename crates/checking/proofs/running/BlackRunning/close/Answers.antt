-- `Black` closes a day.
use mathlib.Core.Path.{refl, ◌∙◌}
use native.Mathlib.Omega.{arith}
use lib.ListN.{replicate}
use Rattle.chains.proofs.Values.{chains_of_day-length, first_within, first_are}
use Rattle.checking.proofs.DayLaws.{day_fits, first_fit, first_compared, black_after, black_compared, black_quiet}
use Rattle.checking.proofs.running.BlackRunning.close.Goals as goal

pub slice_bounds-values-end : goal.slice_bounds-values-end
slice_bounds-values-end c = first_within (replicate 17 c.link_value-black.result) refl (day_fits c.requires (c.values_of_day-k.ensures ∙ chains_of_day-length 1 _ _)).0

pub slice_bounds-all-end : goal.slice_bounds-all-end
slice_bounds-all-end c = first_are (replicate 17 c.link_value-black.result) refl (day_fits c.requires (c.values_of_day-k.ensures ∙ chains_of_day-length 1 _ _)).0

pub all-requires : goal.all-requires
all-requires c =
    let d = day_fits c.requires (c.values_of_day-k.ensures ∙ chains_of_day-length 1 _ _) in
    first_fit (replicate 17 c.link_value-black.result) refl d.0 (d.1, d.2)

pub returns-then-k-gt0 : goal.returns-then-k-gt0
returns-then-k-gt0 c =
    let a = c.args in
    let k = c.values_of_day-k.ensures ∙ chains_of_day-length 1 a.self.now.n a.g in
    record {
      count = k;
      state_after = black_after a.self.now.n a.g a.self.now.black a.h c.link_value-black.ensures;
      outcomes_after = black_compared a.self.now.n a.g a.self.now.black a.h c.link_value-black.ensures a.book.now a.outcomes.now k
          (first_compared (replicate 17 c.link_value-black.result) refl (day_fits c.requires k).0 a.book.now a.outcomes.now c.all.ensures);
    }

pub returns-else-k-gt0 : goal.returns-else-k-gt0
returns-else-k-gt0 c =
    let a = c.args in
    let k = c.values_of_day-k.ensures ∙ chains_of_day-length 1 a.self.now.n a.g in
    record {
      count = k;
      state_after = black_after a.self.now.n a.g a.self.now.black a.h c.link_value-black.ensures;
      outcomes_after = black_quiet a.self.now.n a.g a.self.now.black a.h c.link_value-black.ensures a.book.now a.outcomes.now k (omega arith);
    }
