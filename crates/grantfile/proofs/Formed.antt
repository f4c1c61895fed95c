-- A file passes all tests exactly if it is well formed, and rows enough are lent.
use Rattle.std.proofs.Common.{◌≡◌, ℕ, zero, suc, ◌+◌, ◌-◌, ◌*◌, ◌<◌, ◌≤◌, IsErrAnd, Bool, true, false, not, T, ltb, leb, List, [], ◌∷◌, ◌++◌, length, is_some as option_is_some, Some, None, Ok, Err, Option, Result, sym, refl, ap, ◌∙◌, subst, arith}
use Rattle.std.proofs.lemmas.Bool.{not-false, or_parts, or_from, and_right, and_left, ltb-false, eqb-true, le-ltb, lt-leb, eq-eqb, cond-false}
use Rattle.mesh.specs.declared.right.Right.{Right}
use Rattle.mesh.specs.declared.row.Row.{Row}
use Rattle.mesh.specs.declared.shape.Shape.{Shape}
use Rattle.mesh.specs.Kind.{Kind}
use Rattle.grantfile.specs.declared.fault.Fault.{Fault}
use Rattle.grantfile.specs.Accepted.{Granted, WellFormed, Accepts}
use Rattle.grantfile.specs.Format.{byte_at, devices_of, points_of, entry_at, start_of, count_of, body_at, grant_at, point_at}
use Rattle.grantfile.specs.Reading.{ReadInto}
use Rattle.grantfile.specs.Tests.{Test, first, out_of_range, out_of_order, head_tests, rows_test, entry_test, entries_tests, end_test, contents_tests, grant_tests, body_tests, bodies_tests, all_tests}
use Rattle.grantfile.proofs.Checks.{passed_start, passed_end}
use Rattle.grantfile.proofs.Firsts.{handed_on, under, first_past, first_none, joined_passed, joined_none, each_joined}
use Rattle.grantfile.proofs.Places.{body_first, body_rises}
use Rattle.grantfile.proofs.Written.{ordered}

-- every test of a list passes
abbrev AllPass : List Test → Type 0
AllPass [] = Unit {0}
AllPass (t ∷ ts) = (t.fails ≡ false) × AllPass ts

all_pass : (ts : List Test) → first ts ≡ None → AllPass ts
all_pass [] e = tt
all_pass (t ∷ ts) e = let u = under t.fails t.fault (first ts) e in (u.0, all_pass ts u.1)

pass_all : (ts : List Test) → AllPass ts → first ts ≡ None
pass_all [] a = refl
pass_all (t ∷ ts) a = cond-false t.fails (Some t.fault) (first ts) a.0 ∙ pass_all ts a.1

-- ---- from passed tests to a well-formed file

range_holds : (n : ℕ) → out_of_range n ≡ false → (1 ≤ n) × (n ≤ 64)
range_holds n e = let p = or_parts _ _ e in (ltb-false n 1 p.0, ltb-false 64 n p.1)

some_right : (o : Option Right) → option_is_some o ≡ true → (r : Right) × (o ≡ Some r)
some_right None e = absurd (cc)
some_right (Some r) e = (r, refl)

holds : (b : Bool) → not b ≡ false → T b
holds true e = tt
holds false e = absurd (cc)

-- the three tests of a grant, by device and index
grant_passed : {W : Type 0} (k : Kind W) (file : List ℕ) (d j : ℕ) → first (bodies_tests k file) ≡ None → Granted file d j → AllPass (grant_tests k file (body_at file d) j)
grant_passed k file d j e g =
    all_pass (grant_tests k file (body_at file d) j)
    (joined_passed (grant_tests k file (body_at file d)) (count_of file d) j g.1 (joined_passed (body_tests k file) (devices_of file) d g.0 e))

rises : (file : List ℕ) (d j : ℕ) → out_of_order file (body_at file d) (j + 1) ≡ false → point_at file (grant_at file d j) < point_at file (grant_at file d (j + 1))
rises file d j e =
    let z : j + 1 - 1 ≡ j = omega arith in
    subst (λ i. point_at file (body_at file d + 6 * i) < point_at file (grant_at file d (j + 1))) z ((ordered file (body_at file d) (j + 1) e).1 (omega arith))

pub formed : {W : Type 0} (k : Kind W) (lent : ℕ) (file : List ℕ) → first (all_tests k lent file) ≡ None → WellFormed k file × (devices_of file * points_of file ≤ lent)
formed k lent file e =
    let body = contents_tests file ++ bodies_tests k file in
    let parts = first_none (head_tests k.number file) (rows_test lent file ∷ body) e in
    let head = all_pass (head_tests k.number file) parts.0 in
    let rest = under (rows_test lent file).fails (rows_test lent file).fault (first body) parts.1 in
    let contents = (first_none (contents_tests file) (bodies_tests k file) rest.1).0 in
    let bodies = (first_none (contents_tests file) (bodies_tests k file) rest.1).1 in (
      record {
        long = ltb-false (length file) 4 head.0;
        letter = eqb-true (byte_at file 0) 0x47 (not-false _ head.1.0);
        kind = eqb-true (byte_at file 1) k.number (not-false _ head.1.1.0);
        devices = range_holds (devices_of file) head.1.1.1.0;
        points = range_holds (points_of file) head.1.1.1.1.0;
        starts = λ d h. passed_start file d contents h;
        ends = passed_end file contents;
        inside = λ d j g. (ordered file (body_at file d) j (grant_passed k file d j bodies g).0).0;
        rising = λ d j g. rises file d j (grant_passed k file d (j + 1) bodies g).0;
        rights = λ d j g. some_right _ (not-false _ (grant_passed k file d j bodies g).1.0);
        amounts = λ d j g. holds _ (grant_passed k file d j bodies g).1.1.0;
      },
      ltb-false lent (devices_of file * points_of file) rest.0,
    )

-- ---- from a well-formed file to passed tests

is_in_range : (n : ℕ) → 1 ≤ n → n ≤ 64 → out_of_range n ≡ false
is_in_range n a b = or_from _ _ (le-ltb n 1 a) (le-ltb 64 n b)

is_some : (o : Option Right) (r : Right) → o ≡ Some r → not (option_is_some o) ≡ false
is_some o r e = ap (λ p. not (option_is_some p)) e

is_true : (b : Bool) → T b → not b ≡ false
is_true true t = refl
is_true false t = absurd t

in_order : {W : Type 0} (k : Kind W) (file : List ℕ) (d j : ℕ) → WellFormed k file → Granted file d j → out_of_order file (body_at file d) j ≡ false
in_order k file d zero w g = or_from _ _ (lt-leb (points_of file) _ (w.inside d 0 g)) (and_left (ltb 0 0) (leb (point_at file (grant_at file d 0)) (point_at file (grant_at file d (0 - 1)))) (le-ltb 0 0 (omega arith)))
in_order k file d (suc j) w g =
    let z : j + 1 ≡ suc j = omega arith in
    let back : suc j - 1 ≡ j = omega arith in
    let rise = w.rising d j (g.0, omega arith) in
    let lower = subst (λ m. point_at file (grant_at file d m) < point_at file (grant_at file d (suc j))) (sym back) (subst (λ m. point_at file (grant_at file d j) < point_at file (grant_at file d m)) z rise) in
    or_from _ _ (lt-leb (points_of file) _ (w.inside d (suc j) g)) (and_right _ _ (lt-leb (point_at file (grant_at file d (suc j))) _ lower))

grant_passes : {W : Type 0} (k : Kind W) (file : List ℕ) (d j : ℕ) → WellFormed k file → Granted file d j → first (grant_tests k file (body_at file d) j) ≡ None
grant_passes k file d j w g =
    let r = w.rights d j g in
    pass_all (grant_tests k file (body_at file d) j) (in_order k file d j w g, (is_some _ r.0 r.1, (is_true _ (w.amounts d j g), tt)))

contents_pass : {W : Type 0} (k : Kind W) (file : List ℕ) → WellFormed k file → first (contents_tests file) ≡ None
contents_pass k file w =
    let first_body = body_first file in
    let rise = body_rises file 0 (devices_of file) (omega arith) in
    let starts = λ (d : ℕ) (l : d < devices_of file). pass_all (entry_test file d ∷ []) (ap not (eq-eqb (start_of file d) (body_at file d) (w.starts d l)), tt) in
    let ends = ap not (eq-eqb (length file) (body_at file (devices_of file)) w.ends) in
    cond-false _ _ _ (le-ltb (length file) (entry_at (devices_of file)) (let e = w.ends in omega arith))
    ∙ first_past (entries_tests file) (end_test file ∷ []) (each_joined (entry_test file) (devices_of file) ∙ joined_none (λ d. entry_test file d ∷ []) (devices_of file) starts)
    ∙ pass_all (end_test file ∷ []) (ends, tt)

bodies_pass : {W : Type 0} (k : Kind W) (file : List ℕ) → WellFormed k file → first (bodies_tests k file) ≡ None
bodies_pass k file w =
    joined_none (body_tests k file) (devices_of file)
    (λ d l. joined_none (grant_tests k file (body_at file d)) (count_of file d) (λ j m. grant_passes k file d j w (l, m)))

pub passes : {W : Type 0} (k : Kind W) (lent : ℕ) (file : List ℕ) → WellFormed k file → devices_of file * points_of file ≤ lent → first (all_tests k lent file) ≡ None
passes k lent file w enough =
    first_past (head_tests k.number file) (rows_test lent file ∷ (contents_tests file ++ bodies_tests k file))
    (pass_all (head_tests k.number file) (
      le-ltb (length file) 4 w.long,
      (
        ap not (eq-eqb (byte_at file 0) 0x47 w.letter),
        (
          ap not (eq-eqb (byte_at file 1) k.number w.kind),
          (is_in_range (devices_of file) w.devices.0 w.devices.1, (is_in_range (points_of file) w.points.0 w.points.1, tt)),
        ),
      ),
    ))
    ∙ cond-false (rows_test lent file).fails (Some (rows_test lent file).fault) _ (le-ltb lent (devices_of file * points_of file) enough)
    ∙ first_past (contents_tests file) (bodies_tests k file) (contents_pass k file w) ∙ bodies_pass k file w

-- ---- both, for an answer

pub accepts : {W : Type 0} (k : Kind W) (file : List ℕ) (before after : List (Row W)) (r : Result Shape Fault) → ReadInto k file before after r → Accepts k (length before) file r
accepts k file before after (Ok s) h = formed k (length before) file h.0
accepts k file before after (Err f) h = λ w enough.
    let failed = h.0 in
    let passed = passes k (length before) file w enough in
    cc

-- a fault that is handed on
pub refused : {W : Type 0} (k : Kind W) (file : List ℕ) (rows : List (Row W)) (r : Result Shape Fault) (f : Fault) → IsErrAnd r (λ e. e ≡ f)
    → first (all_tests k (length rows) file) ≡ Some f → ReadInto k file rows rows r × Accepts k (length rows) file r
refused k file rows r f h e = let read : ReadInto k file rows rows r = rw (handed_on r f h) (e, refl) in (read, accepts k file rows rows r read)
