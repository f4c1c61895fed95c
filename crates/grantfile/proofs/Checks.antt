-- What the tests of a file come to, list by list in their order.
use Rattle.std.proofs.Common.{◌≡◌, ℕ, ◌+◌, ◌*◌, ◌<◌, ◌≤◌, List, [], ◌∷◌, ◌++◌, length, Some, None, refl, sym, ap, ◌∙◌, subst, min, arith}
use Rattle.std.specs.List.{range_with_len, flat_map}
use Rattle.std.proofs.lemmas.Bool.{le-ltb, ltb-false, eq-eqb, eqb-true, ne_eqb, not-false, not_from_true, not_from_false, cond-true, cond-false}
use Rattle.mesh.specs.declared.shape.Shape.{Shape}
use Rattle.mesh.specs.Kind.{Kind}
use Rattle.mesh.specs.Table.{rows_of}
use Rattle.grantfile.specs.declared.fault.Fault.{Fault}
use Rattle.mesh.specs.declared.refusal.Refusal.TheVariants.{WrongEnd}
use Rattle.grantfile.specs.declared.fault.Layer.TheVariants as layer
use Rattle.grantfile.specs.declared.bodies.Grants.{Grants}
use Rattle.grantfile.specs.Inner.{grants_tests}
use Rattle.grantfile.specs.Format.{ShapeOf, devices_of, points_of, entry_at, start_of, count_of, body_at}
use Rattle.grantfile.specs.Tests.{first, entry_test, entries_tests, end_test, contents_tests, head_tests, rows_test, body_tests, bodies_tests, all_tests, grant_tests}
use Rattle.grantfile.proofs.Firsts.{under, first_past, first_stop, first_none, joined_passed, each_joined}
use Rattle.grantfile.proofs.Places.{body_next, body_rises}

whole : (file : List ℕ) → entry_at (devices_of file) ≤ length file → first (contents_tests file) ≡ first (entries_tests file ++ end_test file ∷ [])
whole file h = cond-false _ _ _ (le-ltb _ _ h)

-- whole contents with a wrong entry
pub entries_stop : (file : List ℕ) (f : Fault) → entry_at (devices_of file) ≤ length file → first (entries_tests file) ≡ Some f → first (contents_tests file) ≡ Some f
entries_stop file f h e = whole file h ∙ first_stop (entries_tests file) (end_test file ∷ []) f e

entries_past : (file : List ℕ) → entry_at (devices_of file) ≤ length file → first (entries_tests file) ≡ None → first (contents_tests file) ≡ first (end_test file ∷ [])
entries_past file h e = whole file h ∙ first_past (entries_tests file) (end_test file ∷ []) e

-- whole contents with right entries: the end decides
pub end_stops : (file : List ℕ) (end : ℕ) (f : Fault) → entry_at (devices_of file) ≤ length file → first (entries_tests file) ≡ None → end ≡ body_at file (devices_of file)
    → (length file ≡ end → ⊥) → f ≡ record { why = WrongEnd; place = min (length file) end; layer = layer.Contents } → first (contents_tests file) ≡ Some f
end_stops file end f h e p ne q =
    let other : length file ≡ body_at file (devices_of file) → ⊥ = λ z. ne (omega arith) in
    entries_past file h e ∙ cond-true _ _ _ (not_from_false _ (ne_eqb _ _ other)) ∙ ap Some (ap (λ n. record { why = WrongEnd; place = min (length file) n; layer = layer.Contents }) (sym p) ∙ sym q)

pub contents_passed : (file : List ℕ) → entry_at (devices_of file) ≤ length file → first (entries_tests file) ≡ None → length file ≡ body_at file (devices_of file)
    → first (contents_tests file) ≡ None
contents_passed file h e q = entries_past file h e ∙ cond-false _ _ _ (not_from_true _ (eq-eqb _ _ q))

-- what contents that pass say: they are whole, each body starts where its entry says, and lies within the file, which ends with the last
pub passed_whole : (file : List ℕ) → first (contents_tests file) ≡ None → entry_at (devices_of file) ≤ length file
passed_whole file e = ltb-false _ _ (under _ _ _ e).0

passed : (file : List ℕ) → first (contents_tests file) ≡ None → (first (entries_tests file) ≡ None) × (first (end_test file ∷ []) ≡ None)
passed file e = first_none (entries_tests file) (end_test file ∷ []) (under _ _ _ e).1

pub passed_start : (file : List ℕ) (d : ℕ) → first (contents_tests file) ≡ None → d < devices_of file → start_of file d ≡ body_at file d
passed_start file d e h =
    let entries = sym (each_joined (entry_test file) (devices_of file)) ∙ (passed file e).0 in
    eqb-true _ _ (not-false _ (under _ _ None (joined_passed (λ i. entry_test file i ∷ []) (devices_of file) d h entries)).0)

pub passed_end : (file : List ℕ) → first (contents_tests file) ≡ None → length file ≡ body_at file (devices_of file)
passed_end file e = eqb-true _ _ (not-false _ (under _ _ _ (passed file e).1).0)

pub passed_within : (file : List ℕ) (d : ℕ) → first (contents_tests file) ≡ None → d < devices_of file → body_at file d + 6 * count_of file d ≤ length file
passed_within file d e h =
    let n = body_next file d in
    let m = body_rises file (d + 1) (devices_of file) (omega arith) in
    let l = passed_end file e in
    omega arith

-- the tests of a body, by what its grants say
pub tests_of_body : {W : Type 0} (k : Kind W) (file : List ℕ) (d : ℕ) (g : Grants) → g.file.now ≡ file → g.start ≡ body_at file d → g.count ≡ count_of file d
    → first (body_tests k file d) ≡ first (grants_tests k g)
tests_of_body k file d g f s c =
    let P = λ (bytes : List ℕ) (start count : ℕ). first (flat_map (grant_tests k bytes start) (range_with_len 0 count)) in
    ap (λ n. P file (body_at file d) n) (sym c) ∙ ap (λ i. P file i g.count) (sym s) ∙ ap (λ b. P b g.start g.count) (sym f)

-- what is left to test once the head passes and there are rows enough, and once the contents pass too
pub past_rows : {W : Type 0} (k : Kind W) (lent kind : ℕ) (file : List ℕ) (s : Shape) → kind ≡ k.number → first (head_tests kind file) ≡ None → ShapeOf file s
    → rows_of s ≤ lent → first (all_tests k lent file) ≡ first (contents_tests file ++ bodies_tests k file)
past_rows k lent kind file s q h named w =
    let n : devices_of file * points_of file ≡ rows_of s = rw (named.0, named.1) refl in
    let enough : devices_of file * points_of file ≤ lent = omega arith in
    first_past (head_tests k.number file) (rows_test lent file ∷ (contents_tests file ++ bodies_tests k file)) (subst (λ m. first (head_tests m file) ≡ None) q h)
    ∙ cond-false _ _ _ (le-ltb _ _ enough)

pub past_contents : {W : Type 0} (k : Kind W) (lent kind : ℕ) (file : List ℕ) (s : Shape) → kind ≡ k.number → first (head_tests kind file) ≡ None → ShapeOf file s
    → rows_of s ≤ lent → first (contents_tests file) ≡ None → first (all_tests k lent file) ≡ first (bodies_tests k file)
past_contents k lent kind file s q h named w e = past_rows k lent kind file s q h named w ∙ first_past (contents_tests file) (bodies_tests k file) e
