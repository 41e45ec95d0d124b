-- The marked examples hold: antt computes the listing and the acceptance, and the laws of tables turn them into statements
-- about the sets that give a table.
use mathlib.Core.{Path.◌≡◌, Path.refl, Bool.true, Bool.false, List.List, List.flat_map}
use Prim.Native.Nat.{ℕ}
use Rattle.evidence.specs.Evidence.{table_of, listing, accepted}
use Rattle.lists.proofs.Laws.{true_or_false}
use Rattle.evidence.proofs.TableLaws.{listing_ascends, given_iff_accepted, listed_iff}
use Rattle.layouts.specs.Layouts.{lg, names_through, chains}
use Rattle.reading.specs.Numbers.{last_good_day}
use Rattle.reading.specs.Contract.{read_tested, readout, found, listed_in}
use Rattle.ambiguity.specs.Ambiguity.{tile_table, tile_read, days_listed, offset_sets, sets, listed}
use Rattle.searching.specs.Searching.{maximal, looks, found_in, found_days, days_under, progress_of}
use Rattle.examples.specs.Examples.{Lists, NotGiven, Examples, LastGoods, Skipped, Searched, Figures}

lists : (s n d : ℕ) (table list : List ℕ) → accepted (chains s n d) d table ≡ true → listing (chains s n d) d table ≡ list → Lists s n d table list
lists s n d table list a e =
    record {
      given = (given_iff_accepted (chains s n d) d table).1 a;
      listed = rw e at (listed_iff (chains s n d) d table a);
      ascending = rw e at (listing_ascends (chains s n d) d table);
    }

refused : (s n d : ℕ) (table : List ℕ) → accepted (chains s n d) d table ≡ false → NotGiven s n d table
refused s n d table e S h = true_or_false ((given_iff_accepted (chains s n d) d table).0 (S, h)) e

pub examples : Examples
unfolding listing accepted table_of lg names_through flat_map chains last_good_day lib.Count.ones lib.Count.ones_in
examples =
    record {
      figure = record { lists = lists 2 16 64 _ _ refl refl; passed_ok = refl; low_is = refl; good_is = refl };
      tree_16 = record { formula = refl; chains_are = refl };
      tree_14 = record { formula = refl; chains_are = refl };
      tree_3 = record { formula = refl; chains_are = refl };
      days_of_tree = record { lists = lists 3 2 16 _ _ refl refl; passed_ok = refl; low_is = refl; good_is = refl };
      black_day = record { lists = lists 1 2 24 _ _ refl refl; passed_ok = refl; low_is = refl; good_is = refl };
      tile_1 = lists 2 1 1 _ _ refl refl;
      tile_4 = lists 2 4 4 _ _ refl refl;
      tile_14 = refused 2 4 4 _ refl;
      tree_2 = lists 3 1 2 _ _ refl refl;
      tree_2_14 = refused 3 1 2 _ refl;
    }

pub last_goods : LastGoods
unfolding listing accepted table_of lg names_through flat_map chains last_good_day
last_goods =
    record {
      no_black = record { lists = lists 3 4 4 _ _ refl refl; passed_ok = refl; low_is = refl; good_is = refl };
      black_stored_once = record { lists = lists 3 4 8 _ _ refl refl; passed_ok = refl; low_is = refl; good_is = refl };
    }

pub skipped : Skipped
skipped =
    let e = examples.figure in
    record {
      one_skipped = record { lists = e.lists; passed_ok = refl; low_is = refl; good_is = e.good_is };
      all_skipped = record { lists = e.lists; passed_ok = refl; low_is = refl; good_is = e.good_is };
      one_between = record { lists = e.lists; passed_ok = refl; low_is = refl; good_is = e.good_is };
    }

pub searched : Searched
unfolding table_of lg names_through flat_map chains lib.Count.ones lib.Count.ones_in maximal looks found_in found_days days_under progress_of
searched =
    record {
      not_begun = record { looked_at = refl; search_days_found = refl; undecided_is = refl };
      stopped = record { looked_at = refl; search_days_found = refl; undecided_is = refl };
      not_there_yet = record { looked_at = refl; search_days_found = refl; undecided_is = refl };
      finished = record { looked_at = refl; search_days_found = refl; undecided_is = refl };
      clean = record { looked_at = refl; search_days_found = refl; undecided_is = refl };
      two_maximal = record { looked_at = refl; search_days_found = refl; undecided_is = refl };
      allowed = refl;
    }

pub figures : Figures
unfolding table_of lg names_through flat_map chains listing accepted read_tested readout found listed_in last_good_day tile_table tile_read days_listed offset_sets sets listed
figures =
    record {
      one_of_4 = record { sets_are = refl; listed_are = refl };
      two_of_4 = record { sets_are = refl; listed_are = refl };
      two_of_1 = record { sets_are = refl; listed_are = refl };
    }
