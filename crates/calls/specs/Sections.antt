-- The parts of a beginning, as the code cuts them. Assumes nothing.
use Rattle.std.specs.Prelude.{◌≡◌, ℕ, ◌+◌, ◌*◌, Bool, true, ◌&&◌, List, length, drop, ◌==◌, nat_le}
use Rattle.std.specs.Simd.{first_chunks}
use Rattle.calls.specs.declared.sections.Front.{Front}
use Rattle.calls.specs.declared.sections.Sections.{Sections}
use Rattle.calls.specs.Words.{at}
use Rattle.calls.specs.Begin.{region_count, march_count, sail_count, unit_count, out_count, barred_count, region_words, march_words, sail_words, unit_words, owner_words, phase_words, out_words, barred_words, words_fit}

-- the counts in front are within their limits, and there are words for them
abbrev pub front_fits : List ℕ → Bool
front_fits ws =
    nat_le 4 (length ws) && (nat_le (region_count ws) 128 && (nat_le (march_count ws) 1024 && (nat_le (sail_count ws) 1024 && (nat_le (unit_count ws) 128 &&
    nat_le (4 + 3 * region_count ws + 2 * march_count ws + 2 * sail_count ws + 3 * unit_count ws + region_count ws + 2) (length ws)))))

-- and so are those behind, with no word left over
abbrev pub back_fits : List ℕ → Bool
back_fits ws =
    nat_le (out_count ws) 128 && (nat_le (4 * out_count ws + 1) (length (out_words ws)) && (nat_le (barred_count ws) 128 && length (barred_words ws) == 1 + barred_count ws))

pub record FrontCut (ws : List ℕ) (f : Front) : Type 0 where
  pub fit : front_fits ws ≡ true
  pub regions : f.regions.now ≡ first_chunks 3 (region_count ws) (region_words ws)
  pub march : f.march.now ≡ first_chunks 2 (march_count ws) (march_words ws)
  pub sail : f.sail.now ≡ first_chunks 2 (sail_count ws) (sail_words ws)
  pub units : f.units.now ≡ first_chunks 3 (unit_count ws) (unit_words ws)
  pub owners : f.owners.now ≡ first_chunks 1 (region_count ws) (owner_words ws)
  pub rest : f.rest.now ≡ phase_words ws

pub record Cut (ws : List ℕ) (s : Sections) : Type 0 where
  pub fit : words_fit ws ≡ true
  pub front : FrontCut ws s.front
  pub phase : s.phase ≡ at (phase_words ws) 0
  pub dislodged : s.dislodged.now ≡ first_chunks 4 (out_count ws) (out_words ws)
  pub barred : s.barred.now ≡ drop 1 (barred_words ws)
