-- Entries as arrays are those that the words give: so many words each, from the front on; one entry on, and the end. Assumes nothing.
use Rattle.std.proofs.Common.{◌≡◌, ℕ, zero, suc, ◌+◌, ◌-◌, ◌*◌, ◌/◌, ◌<◌, ◌≤◌, Bool, true, false, ◌&&◌, List, [], ◌∷◌, ◌++◌, map, length, take, drop, Some, None, sym, refl, ap, ◌∙◌, subst, append_assoc, suc-mul, mul-suc, arith, length-drop}
use Rattle.std.proofs.Math.Nat.{mul-div_cancel_left}
use Rattle.std.proofs.lemmas.List.{length-take-le, drop-take}
use Rattle.std.specs.Simd.{first_chunks}
use Rattle.values.specs.Fold.{all}
use Rattle.calls.specs.Words.{entries, every_entry}
use Rattle.calls.specs.Read.{read_if}

-- ---- one entry on, and the end
one_less : (n i : ℕ) → i < n → n - i ≡ suc (n - (i + 1))
one_less n i h = omega arith

none_left : (n i : ℕ) → n ≤ i → n - i ≡ 0
none_left n i h = omega arith

pub entries_more : {A : Type 0} (n i w : ℕ) (read : List ℕ → A) (ws : List ℕ) → i < n → entries (n - i) w read ws ≡ read ws ∷ entries (n - (i + 1)) w read (drop w ws)
unfolding entries
entries_more n i w read ws h = ap (λ k. entries k w read ws) (one_less n i h)

pub entries_none : {A : Type 0} (n i w : ℕ) (read : List ℕ → A) (ws : List ℕ) → n ≤ i → entries (n - i) w read ws ≡ []
unfolding entries
entries_none n i w read ws h = ap (λ k. entries k w read ws) (none_left n i h)

pub every_more : (n i w : ℕ) (test : List ℕ → Bool) (ws : List ℕ) → i < n → every_entry (n - i) w test ws ≡ (test ws && every_entry (n - (i + 1)) w test (drop w ws))
unfolding every_entry
every_more n i w test ws h = ap (λ k. every_entry k w test ws) (one_less n i h)

pub every_none : (n i w : ℕ) (test : List ℕ → Bool) (ws : List ℕ) → n ≤ i → every_entry (n - i) w test ws ≡ true
unfolding every_entry
every_none n i w test ws h = ap (λ k. every_entry k w test ws) (none_left n i h)

pub length-chunks : {X : Type 0} (w n : ℕ) (xs : List X) → length (first_chunks w n xs) ≡ n
length-chunks w zero xs = refl
length-chunks w (suc n) xs = ap suc (length-chunks w n (drop w xs))

pub room_more : (n w l : ℕ) → suc n * w ≤ l → (w ≤ l) × (n * w ≤ l - w)
room_more n w l h = let sum = suc-mul n w in (omega arith, omega arith)

-- a reading that needs the first words alone
pub map_chunks : {A : Type 0} (w : ℕ) (read : List ℕ → A) → ((vs : List ℕ) → w ≤ length vs → read (take w vs) ≡ read vs) → (n : ℕ) (ws : List ℕ) → n * w ≤ length ws → map read (first_chunks w n ws) ≡ entries n w read ws
unfolding entries
map_chunks w read same zero ws h = refl
map_chunks w read same (suc n) ws h =
    let room = room_more n w (length ws) h in
    let rest = map_chunks w read same n (drop w ws) (subst (λ k. n * w ≤ k) (sym (length-drop w ws)) room.1) in
    let here = same ws room.0 in
    λ i. here i ∷ rest i

pub all_chunks : (w : ℕ) (test : List ℕ → Bool) → ((vs : List ℕ) → w ≤ length vs → test (take w vs) ≡ test vs) → (n : ℕ) (ws : List ℕ) → n * w ≤ length ws → all test (first_chunks w n ws) ≡ every_entry n w test ws
unfolding every_entry all
all_chunks w test same zero ws h = refl
all_chunks w test same (suc n) ws h =
    let room = room_more n w (length ws) h in
    let rest = all_chunks w test same n (drop w ws) (subst (λ k. n * w ≤ k) (sym (length-drop w ws)) room.1) in
    let here = same ws room.0 in
    λ i. here i && rest i

-- such are those that read a word by its place
pub one_word : {A : Type 0} (read : List ℕ → A) → ((a : ℕ) (more : List ℕ) → read (a ∷ []) ≡ read (a ∷ more)) → (vs : List ℕ) → 1 ≤ length vs → read (take 1 vs) ≡ read vs
one_word read h [] l = absurd (omega arith)
one_word read h (a ∷ more) l = h a more

pub two_words : {A : Type 0} (read : List ℕ → A) → ((a b : ℕ) (more : List ℕ) → read (a ∷ b ∷ []) ≡ read (a ∷ b ∷ more)) → (vs : List ℕ) → 2 ≤ length vs → read (take 2 vs) ≡ read vs
two_words read h [] l = absurd (omega arith)
two_words read h (a ∷ []) l = absurd (omega arith)
two_words read h (a ∷ b ∷ more) l = h a b more

pub three_words : {A : Type 0} (read : List ℕ → A) → ((a b c : ℕ) (more : List ℕ) → read (a ∷ b ∷ c ∷ []) ≡ read (a ∷ b ∷ c ∷ more)) → (vs : List ℕ) → 3 ≤ length vs → read (take 3 vs) ≡ read vs
three_words read h [] l = absurd (omega arith)
three_words read h (a ∷ []) l = absurd (omega arith)
three_words read h (a ∷ b ∷ []) l = absurd (omega arith)
three_words read h (a ∷ b ∷ c ∷ more) l = h a b c more

pub four_words : {A : Type 0} (read : List ℕ → A) → ((a b c d : ℕ) (more : List ℕ) → read (a ∷ b ∷ c ∷ d ∷ []) ≡ read (a ∷ b ∷ c ∷ d ∷ more)) → (vs : List ℕ) → 4 ≤ length vs → read (take 4 vs) ≡ read vs
four_words read h [] l = absurd (omega arith)
four_words read h (a ∷ []) l = absurd (omega arith)
four_words read h (a ∷ b ∷ []) l = absurd (omega arith)
four_words read h (a ∷ b ∷ c ∷ []) l = absurd (omega arith)
four_words read h (a ∷ b ∷ c ∷ d ∷ more) l = h a b c d more

pub five_words : {A : Type 0} (read : List ℕ → A) → ((a b c d e : ℕ) (more : List ℕ) → read (a ∷ b ∷ c ∷ d ∷ e ∷ []) ≡ read (a ∷ b ∷ c ∷ d ∷ e ∷ more)) → (vs : List ℕ) → 5 ≤ length vs → read (take 5 vs) ≡ read vs
five_words read h [] l = absurd (omega arith)
five_words read h (a ∷ []) l = absurd (omega arith)
five_words read h (a ∷ b ∷ []) l = absurd (omega arith)
five_words read h (a ∷ b ∷ c ∷ []) l = absurd (omega arith)
five_words read h (a ∷ b ∷ c ∷ d ∷ []) l = absurd (omega arith)
five_words read h (a ∷ b ∷ c ∷ d ∷ e ∷ more) l = h a b c d e more

-- the entries of a front that holds just them
take_front : {X : Type 0} (n m : ℕ) (xs : List X) → n ≤ m → take n (take m xs) ≡ take n xs
take_front zero m xs h = refl
take_front (suc n) zero xs h = absurd (omega arith)
take_front (suc n) (suc m) [] h = refl
take_front (suc n) (suc m) (x ∷ xs) h = ap (λ ys. x ∷ ys) (take_front n m xs (omega arith))

chunks_take : {X : Type 0} (w n m : ℕ) (xs : List X) → w * n ≤ m → first_chunks w n (take m xs) ≡ first_chunks w n xs
chunks_take w zero m xs h = refl
chunks_take w (suc n) m xs h =
    let sum = mul-suc w n in
    let here = take_front w m xs (omega arith) in
    let cut : m ≡ w + (m - w) = omega arith in
    let behind = ap (λ k. drop w (take k xs)) cut ∙ drop-take w (m - w) xs in
    let rest = ap (first_chunks w n) behind ∙ chunks_take w n (m - w) (drop w xs) (omega arith) in
    λ i. here i ∷ rest i

pub chunks_front : {X : Type 0} (w n : ℕ) (xs : List X) → 0 < w → w * n ≤ length xs → first_chunks w (length (take (w * n) xs) / w) (take (w * n) xs) ≡ first_chunks w n xs
chunks_front w n xs some room =
    let long = length-take-le (w * n) xs room in
    let count = ap (λ k. k / w) long ∙ mul-div_cancel_left n some in
    ap (λ k. first_chunks w k (take (w * n) xs)) count ∙ chunks_take w n (w * n) xs (omega arith)

pub good_some : {A : Type 0} (t : Bool) (x y : A) → read_if t x ≡ Some y → (t ≡ true) × (x ≡ y)
good_some true x y e = (refl, cc)
good_some false x y e = absurd (let z : ◌≡◌ {A = ℕ} 0 1 = cc in omega arith)

pub good_none : {A : Type 0} (t : Bool) (x : A) → read_if t x ≡ None → t ≡ false
good_none true x e = absurd (let z : ◌≡◌ {A = ℕ} 0 1 = cc in omega arith)
good_none false x e = refl

-- a good entry read: what is left stands as before
pub every_step : (n i w : ℕ) (test : List ℕ → Bool) (ws : List ℕ) (whole : Bool) → i < n → every_entry (n - i) w test ws ≡ whole → test ws ≡ true → every_entry (n - (i + 1)) w test (drop w ws) ≡ whole
every_step n i w test ws whole h so_far good = sym (every_more n i w test ws h ∙ ap (λ t. t && every_entry (n - (i + 1)) w test (drop w ws)) good) ∙ so_far

pub entries_step : {A : Type 0} (n i w : ℕ) (read : List ℕ → A) (ws : List ℕ) (out whole : List A) (x : A) → i < n → out ++ entries (n - i) w read ws ≡ whole → read ws ≡ x → (out ++ x ∷ []) ++ entries (n - (i + 1)) w read (drop w ws) ≡ whole
entries_step n i w read ws out whole x h so_far is =
    append_assoc out (x ∷ []) (entries (n - (i + 1)) w read (drop w ws)) ∙ ap (λ y. out ++ y ∷ entries (n - (i + 1)) w read (drop w ws)) (sym is) ∙ ap (λ xs. out ++ xs) (sym (entries_more n i w read ws h)) ∙ so_far
