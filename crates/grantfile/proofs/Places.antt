-- Where the bodies start, and what an entry read in its place says.
use Rattle.std.proofs.Common.{◌≡◌, ℕ, zero, suc, ◌+◌, ◌-◌, ◌*◌, ◌/◌, ◌<◌, ◌≤◌, List, [], length, get_or, take, drop, refl, ap, ◌∙◌, add-one, suc-mul, arith, length-drop, length-take}
use Rattle.std.specs.Simd.{first_chunks}
use Rattle.std.proofs.lemmas.List.Edits.{length-between}
use Rattle.std.proofs.lemmas.List.{get_or-drop, get_or-take, drop-drop, take_rest}
use Rattle.grantfile.specs.Format.{devices_of, entry_at, start_of, count_of, body_at}
use Rattle.grantfile.specs.Reading.{EntryRead}

pub body_first : (file : List ℕ) → body_at file 0 ≡ entry_at (devices_of file)
unfolding body_at
body_first file = refl

pub body_next : (file : List ℕ) (d : ℕ) → body_at file (d + 1) ≡ body_at file d + 6 * count_of file d
unfolding body_at
body_next file d = rw add-one refl

climbs : (file : List ℕ) (d k : ℕ) → body_at file d ≤ body_at file (d + k)
climbs file d zero = let z : d + 0 ≡ d = omega arith in rw z (omega arith)
climbs file d (suc k) =
    let z : d + suc k ≡ (d + k) + 1 = omega arith in
    let n = body_next file (d + k) in
    let m = climbs file d k in
    rw z (omega arith)

pub body_rises : (file : List ℕ) (d e : ℕ) → d ≤ e → body_at file d ≤ body_at file e
body_rises file d e h = let z : d + (e - d) ≡ e = omega arith in rw z at (climbs file d (e - d))

-- one of the first chunks of a list
get_or-first_chunks : (n k : ℕ) (xs : List ℕ) (j : ℕ) (d : List ℕ) → j < k → get_or (first_chunks n k xs) j d ≡ take n (drop (j * n) xs)
get_or-first_chunks n zero xs j d h = absurd (omega arith)
get_or-first_chunks n (suc k) xs zero d h = let z : 0 * n ≡ 0 = omega arith in rw z refl
get_or-first_chunks n (suc k) xs (suc j) d h =
    let z : n + j * n ≡ suc j * n = omega (arith, suc-mul j n) in
    get_or-first_chunks n k (drop n xs) j d (omega arith) ∙ ap (take n) (drop-drop (j * n) n xs ∙ ap (λ i. drop i xs) z)

-- what an entry says that is read from bytes which are those in its place
pub entry_there : (file bytes rest : List ℕ) (d start count : ℕ) → ((i : ℕ) → i < 3 → get_or bytes i 0 ≡ get_or file (entry_at d + i) 0) → 3 ≤ length bytes
    → EntryRead bytes start count rest → (start ≡ start_of file d) × (count ≡ count_of file d)
entry_there file bytes rest d start count same n r =
    let w = r.whole n in
    let b0 = same 0 (omega arith) in
    let b1 = same 1 (omega arith) in
    let b2 = same 2 (omega arith) in
    let z : get_or file (entry_at d + 0) 0 ≡ get_or file (entry_at d) 0 = ap (λ i. get_or file i 0) (omega arith) in
    (omega arith, w.1 ∙ b2)

pub entry_rest : (file rest : List ℕ) (d start count : ℕ) → entry_at (d + 1) ≤ length file → EntryRead (take (length file - entry_at d) (drop (entry_at d) file)) start count rest
    → (start ≡ start_of file d) × (count ≡ count_of file d)
entry_rest file rest d start count h r =
    entry_there file (drop (entry_at d) file) rest d start count (λ i s. get_or-drop (entry_at d) file i 0) (simp length-drop (omega arith)) (rw (take_rest file (entry_at d)) at r)

-- what the entries say that stand in the contents, three bytes each
pub entries_count : (file : List ℕ) (end devices : ℕ) → end ≡ entry_at devices → end ≤ length file → length (take (end - 4) (drop 4 file)) / 3 ≡ devices
entries_count file end devices e h =
    let n : length (take (end - 4) (drop 4 file)) ≡ end - 4 = length-between file 4 end h in
    rw n (omega arith)

pub entry_chunk : (file : List ℕ) (end devices d : ℕ) (entries : List (List ℕ)) (rest : List ℕ) (start count : ℕ) → end ≡ entry_at devices → end ≤ length file
    → entries ≡ first_chunks 3 (length (take (end - 4) (drop 4 file)) / 3) (take (end - 4) (drop 4 file)) → d < devices
    → EntryRead (get_or entries d []) start count rest → (start ≡ start_of file d) × (count ≡ count_of file d)
entry_chunk file end devices d entries rest start count e h q l r =
    let part = take (end - 4) (drop 4 file) in
    let n : length part ≡ end - 4 = length-between file 4 end h in
    let m : length part / 3 ≡ devices = entries_count file end devices e h in
    let chunk : get_or entries d [] ≡ take 3 (drop (d * 3) part) = rw q (get_or-first_chunks 3 (length part / 3) part d [] (omega arith)) in
    entry_there file (take 3 (drop (d * 3) part)) rest d start count
    (λ i s. get_or-take 3 (drop (d * 3) part) i 0 s ∙ get_or-drop (d * 3) part i 0 ∙ get_or-take (end - 4) (drop 4 file) (d * 3 + i) 0 (omega arith)
    ∙ get_or-drop 4 file (d * 3 + i) 0 ∙ ap (λ j. get_or file j 0) (omega arith))
    (simp (length-take, length-drop) (omega arith)) (rw chunk at r)
