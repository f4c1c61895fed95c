-- Rings and orders: devices that all wait for one another hold a ring, and an order leaves room for none.
use Rattle.std.proofs.Common.{◌≡◌, ℕ, zero, suc, ◌+◌, ◌-◌, ◌^◌, ◌<◌, ◌≤◌, max, Bool, true, false, cond, eqb, ◌⊎◌, List, [], ◌∷◌, ◌++◌, length, get_or, take, drop, Option, Some, None, is_some, not, MatchBool, sym, refl, ap, ◌∙◌, subst, inl, inr, arith, eq-eqb, eqb-true}
use Rattle.std.specs.Int.{bit_at, from_bool}
use Rattle.std.proofs.lemmas.Nat.Bits.{bit_at_above}
use lib.Bits.{bit_or, or_lt}
use lib.Count.{ones, ones-le}
use lib.Pow.{pow-lt}
use borrow.Author.Tests.{eqb-false}
use Rattle.std.proofs.lemmas.List.{take_at, drop_at, take-append-le, get_or_append_left, get_or_push, length_push}
use Rattle.std.proofs.lemmas.Bool.{cases_lt}
use Rattle.flow.specs.Sets.{Member}
use Rattle.arrayvec.specs.ArrayVec.{ArrayVec}
use Rattle.flow.specs.declared.sets.Device.{Device}
use Rattle.flow.specs.Flow.{Rights, Source, In, Different, Chain, Ring}
use Rattle.flow.specs.Followers.{Follows, Followers}
use Rattle.flow.specs.Order.{Ready, Lowest, FlowOrder}
use Rattle.flow.specs.Members.{LeftBy}
use Rattle.flow.specs.Listing.{Waits, NextOf, Listed}
use Rattle.flow.proofs.SetLaws.{bit_with, bit_choice, bit_pow, ones_insert, ones_pow, ones_zero, some_member, empty_has_none}

-- ---- from devices that all wait to a ring

-- each a source of the next
abbrev Trail : Rights → ℕ → List ℕ → Type 0
Trail g x [] = Unit {0}
Trail g x (y ∷ ys) = Source g x y × Trail g y ys

-- from a, a source of x, along the trail up to s
record UpTo (g : Rights) (a s : ℕ) (trail : List ℕ) : Type 0 where
  pub over : List ℕ
  pub chain : Chain g a over s
  pub different : Different over
  pub before : In s over → ⊥
  pub within : (z : ℕ) → In z over → In z trail

up_to_here : (g : Rights) (s a x : ℕ) (xs : List ℕ) → Source g a x → s ≡ x → UpTo g a s (x ∷ xs)
up_to_here g s a x xs h e = record {
  over = [];
  chain = subst (Source g a) (sym e) h;
  different = tt;
  before = λ j. j;
  within = λ z j. absurd j;
}

up_to_more : (g : Rights) (s a x : ℕ) (xs : List ℕ) → Source g a x → (In x xs → ⊥) → (s ≡ x → ⊥) → UpTo g x s xs → UpTo g a s (x ∷ xs)
up_to_more g s a x xs h apart ne u = record {
  over = x ∷ u.over;
  chain = (h, u.chain);
  different = ((λ i. apart (u.within x i)), u.different);
  before = λ i. elim i [ inl e ↦ ne e | inr j ↦ u.before j ];
  within = λ z i. elim i [ inl e ↦ inl e | inr j ↦ inr (u.within z j) ];
}

up_to : (g : Rights) (s a x : ℕ) (xs : List ℕ) → Source g a x → Trail g x xs → Different (x ∷ xs) → In s (x ∷ xs) → UpTo g a s (x ∷ xs)
up_to g s a x [] h t d (inl e) = up_to_here g s a x [] h e
up_to g s a x [] h t d (inr i) = absurd i
up_to g s a x (y ∷ ys) h t d here = go (up_to g s x y ys t.0 t.1 d.1) here (eqb s x) refl
  where
    go : (In s (y ∷ ys) → UpTo g x s (y ∷ ys)) → In s (x ∷ y ∷ ys) → (b : Bool) → eqb s x ≡ b → UpTo g a s (x ∷ y ∷ ys)
    go on i true e = up_to_here g s a x (y ∷ ys) h (eqb-true s x e)
    go on (inl q) false e = absurd (eqb-false s x e q)
    go on (inr i) false e = up_to_more g s a x (y ∷ ys) h d.0 (eqb-false s x e) (on i)

close : (g : Rights) (s x : ℕ) (xs : List ℕ) → Source g s x → Trail g x xs → Different (x ∷ xs) → In s (x ∷ xs) → Ring g
close g s x xs h t d i = ring u.over u.chain (u.before, u.different)
  where
    u : UpTo g s s (x ∷ xs)
    u = up_to g s s x xs h t d i

    ring : (over : List ℕ) → Chain g s over s → Different (s ∷ over) → Ring g
    ring [] c d' = absurd (c.apart refl)
    ring (y ∷ ys) c d' = record { first = s; others = y ∷ ys; several = omega arith; different = d'; round = c }

-- a set of 64 has every number below 64
full : (w i : ℕ) → w < 2 ^ 64 → ones w ≡ 64 → i < 64 → bit_at w i ≡ 0 → ⊥
full w i h all l z =
    let more = ones_insert i w z in
    let few = ones-le 64 (bit_or w (2 ^ i)) (or_lt 64 w (2 ^ i) h (pow-lt l)) in
    omega arith

-- going from source to source among the devices that are left, until one comes again; `seen` is the set of the trail
abbrev Hunt : Rights → ℕ → ℕ → ℕ → List ℕ → ℕ → Type 0
Hunt g left fuel x xs seen =
    seen < 2 ^ 64 → ones seen + fuel ≡ 64 → Member x left → Trail g x xs → Different (x ∷ xs)
    → ((i : ℕ) → Member i seen → In i (x ∷ xs)) → ((i : ℕ) → In i (x ∷ xs) → Member i seen) → Ring g

pub left_small : (left s : ℕ) → left < 2 ^ 64 → Member s left → s < 64
left_small left s h m = elim (cases_lt s 64) [ inl l ↦ l | inr ge ↦ (let z = bit_at_above left 64 s h ge in absurd (omega arith)) ]

hunt_more : (g : Rights) (left f x : ℕ) (xs : List ℕ) (seen s : ℕ) → s < 64 → Member s left → Source g s x → bit_at seen s ≡ 0
    → Hunt g left f s (x ∷ xs) (bit_or seen (2 ^ s)) → Hunt g left (suc f) x xs seen
hunt_more g left f x xs seen s small ms h new on hs many here trail diff listed all =
    let more = ones_insert s seen new in
    on (or_lt 64 seen (2 ^ s) hs (pow-lt small)) (omega arith) ms (h, trail) ((λ i. let o = all s i in omega arith), diff) (λ i o. back i o (eqb i s) refl) forth
  where
    back : (i : ℕ) → Member i (bit_or seen (2 ^ s)) → (b : Bool) → eqb i s ≡ b → In i (s ∷ x ∷ xs)
    back i o true e = inl (eqb-true i s e)
    back i o false e = let a = bit_with s seen i in let z : from_bool (eqb i s) ≡ 0 = ap from_bool e in inr (listed i (omega arith))

    forth : (i : ℕ) → In i (s ∷ x ∷ xs) → Member i (bit_or seen (2 ^ s))
    forth i (inl e) = let a = bit_with s seen i in let o : from_bool (eqb i s) ≡ 1 = ap from_bool (eq-eqb i s e) in omega arith
    forth i (inr j) = let a = bit_with s seen i in let o = all i j in omega arith

hunt : (g : Rights) (left : ℕ) → left < 2 ^ 64 → ((b : ℕ) → Member b left → (a : ℕ) × Member a left × Source g a b)
    → (fuel x : ℕ) (xs : List ℕ) (seen : ℕ) → Hunt g left fuel x xs seen
hunt g left hl waits zero x xs seen hs many here trail diff listed all =
    let w = waits x here in
    elim (bit_choice seen w.0) [
      | inl new ↦ absurd (full seen w.0 hs (omega arith) (left_small left w.0 hl w.1) new)
      | inr again ↦ close g w.0 x xs w.2 trail diff (listed w.0 again)
    ]
hunt g left hl waits (suc f) x xs seen hs many here trail diff listed all =
    let w = waits x here in
    elim (bit_choice seen w.0) [
      | inl new ↦
          hunt_more g left f x xs seen w.0 (left_small left w.0 hl w.1) w.1 w.2 new (hunt g left hl waits f w.0 (x ∷ xs) (bit_or seen (2 ^ w.0)))
          hs many here trail diff listed all
      | inr again ↦ close g w.0 x xs w.2 trail diff (listed w.0 again)
    ]

pub all_wait : (g : Rights) (left x : ℕ) → left < 2 ^ 64 → Member x left → ((b : ℕ) → Member b left → (a : ℕ) × Member a left × Source g a b) → Ring g
all_wait g left x hl here waits =
    let small = left_small left x hl here in
    let one = ones_pow x in
    hunt g left hl waits 63 x [] (2 ^ x) (pow-lt small) (omega arith) here tt ((λ i. i), tt)
    (λ i m. back i m (eqb i x) refl)
    (λ i j. elim j [ inl e ↦ bit_pow x i ∙ ap from_bool (eq-eqb i x e) | inr k ↦ absurd k ])
  where
    back : (i : ℕ) → Member i (2 ^ x) → (b : Bool) → eqb i x ≡ b → In i (x ∷ [])
    back i m true e = inl (eqb-true i x e)
    back i m false e = let p = bit_pow x i in let z : from_bool (eqb i x) ≡ 0 = ap from_bool e in absurd (omega arith)

-- ---- an order leaves room for no ring

-- where a device stands first in a list
place : ℕ → List ℕ → ℕ
place x [] = 0
place x (y ∷ ys) = cond (eqb x y) 0 (suc (place x ys))

place_below : (x k : ℕ) (xs : List ℕ) → In x (take k xs) → place x xs < k
unfolding place
place_below x zero xs i = absurd i
place_below x (suc k) [] i = absurd i
place_below x (suc k) (y ∷ ys) i = go (place_below x k ys) i (eqb x y) refl
  where
    go : (In x (take k ys) → place x ys < k) → In x (y ∷ take k ys) → (b : Bool) → eqb x y ≡ b → cond b 0 (suc (place x ys)) < suc k
    go on j true e = omega arith
    go on (inl q) false e = absurd (eqb-false x y e q)
    go on (inr j) false e = let h = on j in omega arith

place_found : (x : ℕ) (xs : List ℕ) → In x xs → (place x xs < length xs) × (get_or xs (place x xs) 0 ≡ x)
unfolding place
place_found x [] i = absurd i
place_found x (y ∷ ys) i = go (place_found x ys) i (eqb x y) refl
  where
    go : (In x ys → (place x ys < length ys) × (get_or ys (place x ys) 0 ≡ x)) → In x (y ∷ ys) → (b : Bool) → eqb x y ≡ b
        → (cond b 0 (suc (place x ys)) < length (y ∷ ys)) × (get_or (y ∷ ys) (cond b 0 (suc (place x ys))) 0 ≡ x)
    go on j true e = (omega arith, sym (eqb-true x y e))
    go on (inl q) false e = absurd (eqb-false x y e q)
    go on (inr j) false e = let h = on j in (omega arith, h.1)

-- all sources are devices of the table
abbrev pub Within : Rights → ℕ → Type 0
Within g n = (a b : ℕ) → Source g a b → (a < n) × (b < n)

earlier : (g : Rights) (n : ℕ) (xs : List ℕ) → Within g n → FlowOrder g n xs → (a b : ℕ) → Source g a b → place a xs < place b xs
earlier g n xs within o a b h =
    let at = place_found b xs (o.all b (within a b h).1) in
    place_below a (place b xs) xs ((o.next (place b xs) (omega arith)).ready.fed a (subst (Source g a) (sym at.1) h))

chain_earlier : (g : Rights) (n : ℕ) (xs : List ℕ) → Within g n → FlowOrder g n xs → (a : ℕ) (over : List ℕ) (b : ℕ) → Chain g a over b → place a xs < place b xs
chain_earlier g n xs within o a [] b c = earlier g n xs within o a b c
chain_earlier g n xs within o a (y ∷ ys) b c =
    let h = earlier g n xs within o a y c.0 in
    let k = chain_earlier g n xs within o y ys b c.1 in
    omega arith

pub order_ringless : (g : Rights) (n : ℕ) (xs : List ℕ) → Within g n → FlowOrder g n xs → Ring g → ⊥
order_ringless g n xs within o r = let h = chain_earlier g n xs within o r.first r.others r.first r.round in omega arith

-- ---- the loop that gathers the devices that wait

-- those that wait for a device that is left, but for the devices of the rest
pub record WaitingBut (words : List ℕ) (left rest waits : ℕ) : Type 0 where
  pub sound : (b : ℕ) → Member b waits → Waits words left b
  pub whole : (a b : ℕ) → Member a left → bit_at rest a ≡ 0 → Follows words a b → Member b waits
  pub among : (a : ℕ) → bit_at rest a ≤ bit_at left a

pub waiting_more : (words : List ℕ) (left rest waits d less more : ℕ) → LeftBy rest d less → ((i : ℕ) → bit_at more i ≡ max (bit_at waits i) (bit_at (get_or words d 0) i))
    → WaitingBut words left rest waits → WaitingBut words left less more
waiting_more words left rest waits d less more by either w = record {
  sound = λ b o. from b o (bit_choice waits b);
  whole = λ a b l z f. go a b l z f (eqb a d) refl;
  among = λ a. let x = by.members a in let y = w.among a in omega arith;
}
  where
    from : (b : ℕ) → Member b more → (bit_at waits b ≡ 0) ⊎ (bit_at waits b ≡ 1) → Waits words left b
    from b o (inl z) = let e = either b in let m = by.lowest.item in let l = w.among d in (d, omega arith, omega arith)
    from b o (inr y) = w.sound b y

    go : (a b : ℕ) → Member a left → bit_at less a ≡ 0 → Follows words a b → (t : Bool) → eqb a d ≡ t → Member b more
    go a b l z f true t =
        let y : bit_at (get_or words d 0) b ≡ 1 = ap (λ k. bit_at (get_or words k 0) b) (sym (eqb-true a d t)) ∙ f in
        let e = either b in
        omega arith
    go a b l z f false t =
        let x = by.members a in
        let o : from_bool (eqb a d) ≡ 0 = ap from_bool t in
        let y = w.whole a b l (omega arith) f in
        let e = either b in
        omega arith

-- ---- the loop that lists device after device

in_push : (x : ℕ) (xs : List ℕ) (y : ℕ) → In x (xs ++ y ∷ []) → In x xs ⊎ (x ≡ y)
in_push x [] y (inl e) = inr e
in_push x [] y (inr i) = absurd i
in_push x (z ∷ zs) y (inl e) = inl (inl e)
in_push x (z ∷ zs) y (inr i) = elim (in_push x zs y i) [ inl j ↦ inl (inr j) | inr e ↦ inr e ]

in_old : (x : ℕ) (xs : List ℕ) (y : ℕ) → In x xs → In x (xs ++ y ∷ [])
in_old x [] y i = absurd i
in_old x (z ∷ zs) y (inl e) = inl e
in_old x (z ∷ zs) y (inr i) = inr (in_old x zs y i)

in_new : (x : ℕ) (xs : List ℕ) (y : ℕ) → x ≡ y → In x (xs ++ y ∷ [])
in_new x [] y e = inl e
in_new x (z ∷ zs) y e = inr (in_new x zs y e)

different_push : (xs : List ℕ) (y : ℕ) → Different xs → (In y xs → ⊥) → Different (xs ++ y ∷ [])
different_push [] y d n = ((λ i. i), tt)
different_push (x ∷ xs) y d n = (
  (λ i. elim (in_push x xs y i) [ inl j ↦ d.0 j | inr e ↦ n (inl (sym e)) ]),
  different_push xs y d.1 (λ i. n (inr i)),
)

-- some of n devices are listed, and the others left
pub record ListedTo (g : Rights) (n : ℕ) (list : List ℕ) (left : ℕ) : Type 0 where
  pub count : ones left + length list ≡ n
  pub unlisted : (i : ℕ) → Member i left → (i < n) × (In i list → ⊥)
  pub either : (i : ℕ) → i < n → Member i left ⊎ In i list
  pub once : Different list
  pub next : (j : ℕ) → j < length list → Lowest g n (take j list) (get_or list j 0)

-- a device that is left and does not wait is the next to be listed
lowest_next : (g : Rights) (n : ℕ) (list : List ℕ) (left : ℕ) (d : Device) (words : List ℕ) → Within g n → Followers g words → ListedTo g n list left
    → NextOf words left (Some d) → Lowest g n list d.number
lowest_next g n list left d words within f l next = record {
  ready = record {
    device = (l.unlisted d.number next.0).0;
    fresh = (l.unlisted d.number next.0).1;
    fed = λ a h. elim (l.either a (within a d.number h).0) [ inl m ↦ absurd (next.1 (a, m, f.whole a d.number h)) | inr i ↦ i ];
  };
  least = λ e h r. elim (l.either e r.device) [ inl m ↦ waits e r (next.2 e h m) | inr i ↦ r.fresh i ];
}
  where
    waits : (e : ℕ) → Ready g n list e → Waits words left e → ⊥
    waits e r w = (l.unlisted w.0 w.1).1 (r.fed w.0 (f.sound w.0 e w.2))

pub listed_more : (g : Rights) (n : ℕ) (list : List ℕ) (left : ℕ) (d : Device) (words : List ℕ) (less : ℕ) → Within g n → Followers g words
    → ListedTo g n list left → NextOf words left (Some d) → ((i : ℕ) → bit_at less i ≡ bit_at left i - from_bool (eqb i d.number)) → ones less + 1 ≡ ones left
    → ListedTo g n (list ++ d.number ∷ []) less
listed_more g n list left d words less within f l next without fewer = record {
  count = omega (arith, length_push list d.number);
  unlisted = λ i m. ((l.unlisted i (still i m)).0, λ j. gone i m (in_push i list d.number j));
  either = λ i h. stays i (eqb i d.number) refl (l.either i h);
  once = different_push list d.number l.once (l.unlisted d.number next.0).1;
  next = λ j h. nexts j (omega (arith, length_push list d.number)) (cases_lt j (length list));
}
  where
    still : (i : ℕ) → Member i less → Member i left
    still i m = let w = without i in omega arith

    gone : (i : ℕ) → Member i less → In i list ⊎ (i ≡ d.number) → ⊥
    gone i m (inl j) = (l.unlisted i (still i m)).1 j
    gone i m (inr e) =
        let w = without i in
        let o : from_bool (eqb i d.number) ≡ 1 = ap from_bool (eq-eqb i d.number e) in
        omega arith

    stays : (i : ℕ) (b : Bool) → eqb i d.number ≡ b → Member i left ⊎ In i list → Member i less ⊎ In i (list ++ d.number ∷ [])
    stays i true e w = inr (in_new i list d.number (eqb-true i d.number e))
    stays i false e (inl m) = let w = without i in let o : from_bool (eqb i d.number) ≡ 0 = ap from_bool e in inl (omega arith)
    stays i false e (inr j) = inr (in_old i list d.number j)

    nexts : (j : ℕ) → j < length list + 1 → (j < length list) ⊎ (length list ≤ j) → Lowest g n (take j (list ++ d.number ∷ [])) (get_or (list ++ d.number ∷ []) j 0)
    nexts j h (inl b) = rw (take-append-le j list (d.number ∷ []) (omega arith), get_or_append_left list (d.number ∷ []) 0 j b) (l.next j b)
    nexts j h (inr b) =
        let e : length list ≡ j = omega arith in
        rw (take_at list (d.number ∷ []) j e, get_or_push list d.number 0 j e) (lowest_next g n list left d words within f l next)

pub listed_stuck : (g : Rights) (left : ℕ) (words : List ℕ) → left < 2 ^ 64 → 0 < left → Followers g words → NextOf words left None → Ring g
listed_stuck g left words small some f waits =
    let x = some_member left some in
    all_wait g left x.0 small x.1 (λ b m. let w = waits b m in (w.0, w.1, f.sound w.0 b w.2))

pub listed_all : (g : Rights) (n : ℕ) (list : List ℕ) (left : ℕ) → left ≡ 0 → ListedTo g n list left → FlowOrder g n list
listed_all g n list left none l = record { long = long; once = l.once; all = λ d h. listed d (l.either d h); next = λ j h. l.next j (let e = long in omega arith) }
  where
    long : length list ≡ n
    long = let e : ones left ≡ 0 = ap ones none ∙ ones_zero in omega arith

    listed : (d : ℕ) → Member d left ⊎ In d list → In d list
    listed d (inl m) = absurd (empty_has_none left d none m)
    listed d (inr i) = i

-- whether a ring stands, by whether there is a list
pub ring_seen : (g : Rights) (n : ℕ) (r : Option (ArrayVec ℕ)) (b : Bool) → Within g n → Listed g n r → is_some r ≡ not b → MatchBool b (Ring g) (Ring g → ⊥)
ring_seen g n None true within l e = l
ring_seen g n None false within l e = cc
ring_seen g n (Some list) true within l e = cc
ring_seen g n (Some list) false within l e = order_ringless g n list.items within l

-- a list copied to the front of lent memory
pub copied : (n : ℕ) (list memory part : List ℕ) → length list ≡ n → part ≡ list
    → (take n (part ++ drop n memory) ≡ list) × (drop n (part ++ drop n memory) ≡ drop n memory)
copied n list memory part long p =
    let h : length part ≡ n = ap length p ∙ long in
    (take_at part (drop n memory) n h ∙ p, drop_at part (drop n memory) n h)
