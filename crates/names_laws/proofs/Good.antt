-- A board's file line by line: what is read keeps its names apart and its words in rows. Assumes nothing.
use Rattle.std.proofs.Common.{◌≡◌, ℕ, ◌+◌, ◌<◌, Bool, true, false, cond, not, ◌&&◌, List, [], ◌∷◌, ◌++◌, Some, None, Ok, Err, Option, sym, refl, ap, ◌∙◌, subst, arith}
use Rattle.std.specs.Prelude.{is_some, codes}
use Rattle.std.specs.List.{list_all}
use Rattle.std.proofs.lemmas.List.{length-append}
use Rattle.std.proofs.lemmas.List.Folds.{list_all-append}
use Rattle.std.proofs.lemmas.Bool.{and_from, ltb-true}
use Rattle.values.specs.Fold.{all}
use Rattle.values.proofs.Chains.{all_is}
use Rattle.text.specs.Refusal.{misfit}
use Rattle.text.specs.Lines.{words_of, is_long, is_remark, line_read, go_on, read_lines, is_long_file, lines_of}
use Rattle.text.specs.Words.{begins, behind, front, is_end, is_name, kind, new_name, place, power}
use Rattle.text.specs.BoardFile.{Entry, RegionEntry, MarchEntry, SailEntry, BoardEntries, board_form, board_step, edge_form, home_form, march_form, no_board, region_form, sail_form, with_entry}
use Rattle.names_laws.specs.Names.{GoodNames, Rowed, BoardNamesGood}
use Rattle.names_laws.proofs.Found.{found_more}
use Rattle.names_laws.proofs.Gives.{Gives, gives_cond, gives_onward, gives_map}

-- a region's line brings a name that no region had
abbrev Fresh : List (List ℕ) → Entry → Type 0
Fresh names (RegionEntry name k c h) = (is_name name ≡ true) × (place names name ≡ None)
Fresh names (MarchEntry one two) = Unit {0}
Fresh names (SailEntry one two) = Unit {0}

new_name_is : (names : List (List ℕ)) (word name : List ℕ) → new_name names word ≡ Some name → (is_name name ≡ true) × (place names name ≡ None)
unfolding new_name
new_name_is names word name h = go (is_name word) refl (is_some (place names word)) refl h
  where
    found_none : (o : Option ℕ) → is_some o ≡ false → o ≡ None
    found_none None e = refl
    found_none (Some k) e = cc

    go : (a : Bool) → is_name word ≡ a → (b : Bool) → is_some (place names word) ≡ b → cond (a && not b) (Some word) None ≡ Some name → (is_name name ≡ true) × (place names name ≡ None)
    go true p true q e = cc
    go true p false q e = let same : word ≡ name = cc in (ap is_name (sym same) ∙ p, ap (place names) (sym same) ∙ found_none (place names word) q)
    go false p b q e = cc

form_fresh : (names : List (List ℕ)) (words : List (List ℕ)) → Gives (Fresh names) (board_form names words)
form_fresh names words =
    gives_cond (Fresh names) (begins (codes "region") words) (region_form names (behind words)) (cond (begins (codes "march") words) (march_form names (behind words)) (cond (begins (codes "sail") words) (sail_form names (behind words)) None))
    (gives_onward (Fresh names) (new_name names (front (behind words))) _ (λ name named. gives_onward (Fresh names) (kind (front (behind (behind words)))) _ (λ k known.
    let rest = behind (behind (behind words)) in
    gives_cond (Fresh names) (begins (codes "centre") rest) (home_form name k 1 (behind rest)) (home_form name k 0 rest)
    (homed name (new_name_is names _ name named) k 1 (behind rest)) (homed name (new_name_is names _ name named) k 0 rest))))
    (gives_cond (Fresh names) (begins (codes "march") words) (march_form names (behind words)) (cond (begins (codes "sail") words) (sail_form names (behind words)) None)
    (gives_map (Fresh names) (λ edge. MarchEntry edge.0 edge.1) (edge_form names (behind words)) (any_edge (λ one two. MarchEntry one two) (λ one two. tt) (edge_form names (behind words))))
    (gives_cond (Fresh names) (begins (codes "sail") words) (sail_form names (behind words)) None
    (gives_map (Fresh names) (λ edge. SailEntry edge.0 edge.1) (edge_form names (behind words)) (any_edge (λ one two. SailEntry one two) (λ one two. tt) (edge_form names (behind words))))
    tt))
  where
    any_edge : (entry : ℕ → ℕ → Entry) → ((one two : ℕ) → Fresh names (entry one two)) → (o : Option (ℕ × ℕ)) → Gives (λ edge. Fresh names (entry edge.0 edge.1)) o
    any_edge entry so None = tt
    any_edge entry so (Some edge) = so edge.0 edge.1

    homed : (name : List ℕ) → (is_name name ≡ true) × (place names name ≡ None) → (k c : ℕ) (rest : List (List ℕ)) → Gives (Fresh names) (home_form name k c rest)
    homed name so k c rest =
        gives_cond (Fresh names) (begins (codes "home") rest) _ _
        (gives_onward (Fresh names) (power (front (behind rest))) _ (λ p known. gives_cond (Fresh names) (is_end (behind (behind rest))) (Some (RegionEntry name k c (p + 1))) None so tt))
        (gives_cond (Fresh names) (is_end rest) (Some (RegionEntry name k c 0)) None so tt)

abbrev Good : BoardEntries → Type 0
Good b = GoodNames b.names × Rowed b

entry_good : (b : BoardEntries) (e : Entry) → Good b → Fresh b.names e → Good (with_entry b e)
unfolding all
entry_good b (RegionEntry name k c h) g f = (
  record {
    named =
        all_is is_name (b.names ++ name ∷ []) ∙ list_all-append is_name b.names (name ∷ []) ∙
        and_from (list_all is_name b.names) (list_all is_name (name ∷ [])) (sym (all_is is_name b.names) ∙ g.0.named) (and_from (is_name name) true f.0 refl);
    found = found_more b.names name f.1 g.0.found;
  },
  record {
    regions = omega (arith, g.1.regions, length-append b.regions (k ∷ c ∷ h ∷ []), length-append b.names (name ∷ []));
    marches = g.1.marches;
    march = g.1.march;
    sails = g.1.sails;
    sail = g.1.sail;
  },
)
entry_good b (MarchEntry one two) g f = (
  g.0,
  record { regions = g.1.regions; marches = g.1.marches + 1; march = omega (arith, g.1.march, length-append b.march (one ∷ two ∷ [])); sails = g.1.sails; sail = g.1.sail },
)
entry_good b (SailEntry one two) g f = (
  g.0,
  record { regions = g.1.regions; marches = g.1.marches; march = g.1.march; sails = g.1.sails + 1; sail = omega (arith, g.1.sail, length-append b.sail (one ∷ two ∷ [])) },
)

line_good : (b : BoardEntries) (line : List ℕ) → Good b → Gives Good (line_read board_step b line)
line_good b line g =
    gives_cond Good (is_long line) None (cond (is_remark line) (Some b) (board_step b (words_of line))) tt
    (gives_cond Good (is_remark line) (Some b) (board_step b (words_of line)) g
    (gives_map Good (with_entry b) (board_form b.names (words_of line)) (each_good (board_form b.names (words_of line)) (form_fresh b.names (words_of line)))))
  where
    each_good : (o : Option Entry) → Gives (Fresh b.names) o → Gives (λ e. Good (with_entry b e)) o
    each_good None h = tt
    each_good (Some e) h = entry_good b e g h

lines_good : (n : ℕ) (b : BoardEntries) (lines : List (List ℕ)) (r : BoardEntries) → Good b → read_lines board_step n b lines ≡ Ok r → Good r
unfolding read_lines
lines_good n b [] r g h = let same : b ≡ r = cc in go r same
  where
    go : (r : BoardEntries) → b ≡ r → Good r
    go r e = subst Good e g
lines_good n b (line ∷ lines) r g h = go (line_read board_step b line) (line_good b line g) h (λ more. lines_good (n + 1) more lines r)
  where
    go : (o : Option BoardEntries) → Gives Good o → go_on n o (λ more. read_lines board_step (n + 1) more lines) ≡ Ok r → ((more : BoardEntries) → Good more → read_lines board_step (n + 1) more lines ≡ Ok r → Good r) → Good r
    go None so e further = cc
    go (Some more) so e further = further more so e

good_start : Good no_board
unfolding all
good_start = (record { named = refl; found = λ r h. absurd (none r (ltb-true r 0 h)) }, record { regions = refl; marches = 0; march = refl; sails = 0; sail = refl })
  where
    none : (r : ℕ) → r < 0 → ⊥
    none r h = omega arith

pub board_names_good : BoardNamesGood
board_names_good bytes b h = go (is_long_file bytes) h
  where
    go : (long : Bool) → cond long (Err misfit) (read_lines board_step 1 no_board (lines_of bytes)) ≡ Ok b → Good b
    go true e = cc
    go false e = lines_good 1 no_board (lines_of bytes) b good_start e
