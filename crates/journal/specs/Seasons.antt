-- 02's diary of a service (C-18, SPEC 23.3): season after season, each season being 01's diary (Journal). Like it, it
-- is fed only arguments, and knows nothing of records, answers or written bytes. Definitions only.
use Rattle.std.specs.Prelude.{Bool, ◌&&◌, cond, List, [], ◌∷◌, ◌++◌, ℕ, leb, ltb, length, get_or}
use Rattle.refusals.specs.Refusals.{book_limit, last_season, unless_refused}
use Rattle.journal.specs.Journal.{Journal, empty, Argument, refusal_of, entered}

-- the entries of each past season, from season 0 on; and the present season
pub record Seasons : Type 0 where
  pub past : List (List (List ℕ))
  pub present : Journal

-- it starts in season 0, with no entry and an empty open day
abbrev pub first : Seasons
first = record { past = []; present = empty }

-- whether a call comes at 65,536 entries, short of the last season
abbrev pub turns : Seasons → Bool
turns d = leb book_limit (length d.present.entries) && ltb (length d.past) last_season

-- the next season, which has no entry yet
abbrev pub next : Seasons → Seasons
next d = record { past = d.past ++ (d.present.entries ∷ []); present = empty }

-- where a call is tested and made: there on the next season, else on the present one
unfoldable pub current : Seasons → Seasons
current d = cond (turns d) (next d) d

abbrev pub refusal_in : ℕ → ℕ → Seasons → Argument → ℕ
refusal_in scheme n d a = refusal_of scheme n (current d).present a

-- a call that is taken
abbrev pub entered_in : Seasons → Argument → Seasons
entered_in d a = record { past = d.past; present = entered d.present a }

-- a refused one changes nothing, the season neither
abbrev pub kept_in : ℕ → ℕ → Seasons → Argument → Seasons
kept_in scheme n d a = unless_refused (refusal_in scheme n d a) (entered_in (current d) a) d

-- the seasons after a list of calls, and the refusals, one for each call (0 for none)
abbrev pub seasons_after : ℕ → ℕ → Seasons → List Argument → Seasons
seasons_after scheme n d [] = d
seasons_after scheme n d (a ∷ later) = seasons_after scheme n (kept_in scheme n d a) later

abbrev pub refusals_in : ℕ → ℕ → Seasons → List Argument → List ℕ
refusals_in scheme n d [] = []
refusals_in scheme n d (a ∷ later) = refusal_in scheme n d a ∷ refusals_in scheme n (kept_in scheme n d a) later

-- the entries of each season begun; those of season t, which are none before it is begun
abbrev pub all_entries : Seasons → List (List (List ℕ))
all_entries d = d.past ++ (d.present.entries ∷ [])

abbrev pub entries_of : Seasons → ℕ → List (List ℕ)
entries_of d t = get_or (all_entries d) t []
