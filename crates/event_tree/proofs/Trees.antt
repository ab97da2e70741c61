-- The least of the topmost keys of a tree is the least of its leaves.
use Rattle.std.proofs.Common.{◌≡◌, ◌≢◌, ◌⊎◌, ℕ, zero, suc, ◌+◌, ◌-◌, ◌*◌, ◌/◌, ◌^◌, ◌<◌, ◌≤◌, List, [], ◌∷◌, length, take, drop, set, get_or, replicate, map, arith, refl, sym, ap, subst, ◌∙◌, inl, inr}
use Rattle.std.specs.Prelude.{Some, None, if◌then◌else◌}
use Rattle.std.specs.Ordering.{is_lt}
use Rattle.std.specs.declared.cmp.Ordering.{Ordering}
use Rattle.std.specs.declared.cmp.Ordering.TheVariants.{Less, Equal, Greater}
use Rattle.std.proofs.lemmas.List.{get_or-take, get_or-drop, get_or-set_same, get_or-set_other, get_or_past, get_or_default, get_or-replicate, length-replicate, length-drop, drop-replicate, drop-map, drop-set-add, map-set}
use Rattle.std.proofs.Math.ListN.{get_or-map}
use Rattle.event_stamps.specs.declared.Stamp.{Stamp}
use Rattle.event_stamps.specs.Order.{Before, stamp_cmp}
use Rattle.event_stamps.specs.Least.{earlier_of}
use Rattle.event_stamps.proofs.StampOrder.{before_decides, before_trans, same_stamp, not_before_itself}
use Rattle.event_tree.specs.Keys.{Key, IsNotAfter, IsLeastKey, IsLeastFrom, IsPlayed, IsTree, IsTreeBut, key_at}

-- ---- the order of keys
not_after_itself : (a : Key) → IsNotAfter a a
not_after_itself None = tt
not_after_itself (Some s) = not_before_itself s

pub not_after_trans : (a b c : Key) → IsNotAfter a b → IsNotAfter b c → IsNotAfter a c
not_after_trans a b None h k = tt
not_after_trans a None (Some t) h k = absurd k
not_after_trans None (Some s) (Some t) h k = absurd h
not_after_trans (Some r) (Some s) (Some t) h k = stamps r s t h k
  where
    stamps : (r s t : Stamp) → ¬ Before s r → ¬ Before t s → ¬ Before t r
    stamps r s t h k lt = elim (before_decides s t) [
      | inl before ↦ h (before_trans s t r before lt)
      | inr not ↦ h (subst (λ (x : Stamp). Before x r) (same_stamp t s k not) lt)
    ]

-- ---- the earlier of two
-- one of the two, and not after either
pub record IsLesser (a b key : Key) : Type 0 where
  pub one : (key ≡ a) ⊎ (key ≡ b)
  pub first : IsNotAfter key a
  pub second : IsNotAfter key b

pub lesser : (a b : Key) → IsLesser a b (earlier_of a b)
lesser None None = record { one = inl refl; first = tt; second = tt }
lesser None (Some t) = record { one = inr refl; first = tt; second = not_before_itself t }
lesser (Some s) None = record { one = inl refl; first = not_before_itself s; second = tt }
lesser (Some s) (Some t) = by_order (stamp_cmp t s) refl
  where
    keeps : ¬ Before t s → IsLesser (Some s) (Some t) (Some s)
    keeps not = record { one = inl refl; first = not_before_itself s; second = not }

    takes : Before t s → IsLesser (Some s) (Some t) (Some t)
    takes less = record {
      one = inr refl;
      first = λ back. not_before_itself t (before_trans t s t less back);
      second = not_before_itself t;
    }

    by_order : (o : Ordering) → stamp_cmp t s ≡ o → IsLesser (Some s) (Some t) (if is_lt o then Some t else Some s)
    by_order Less e = takes e
    by_order Equal e = keeps (λ less. let same : Less ≡ Equal = sym less ∙ e in cc)
    by_order Greater e = keeps (λ less. let same : Less ≡ Greater = sym less ∙ e in cc)

-- ---- the least of some side by side
pub at_same : (nodes : List Key) (j k : ℕ) → j ≡ k → key_at nodes j ≡ key_at nodes k
at_same nodes j k e = ap (λ (i : ℕ). key_at nodes i) e

-- a key that is read from its place
alone : (nodes : List Key) (start : ℕ) (key : Key) → start < length nodes → key ≡ get_or nodes start key →
    IsLeastFrom nodes start 1 key
alone nodes start key within read = record {
  one = (0, omega arith, sym (here 0 (omega arith)));
  least = λ i lt. subst (λ (k : Key). IsNotAfter key k) (here i lt) (not_after_itself key);
}
  where
    here : (i : ℕ) → i < 1 → key ≡ key_at nodes (start + i)
    here i lt = read ∙ get_or_default nodes start key None within ∙ at_same nodes start (start + i) (omega arith)

pub below_or_not : (i m : ℕ) → (i < m) ⊎ (m ≤ i)
below_or_not i m = grind arith

-- of some and of those that follow them
both : (nodes : List Key) (start m n : ℕ) (a b : Key) → IsLeastFrom nodes start m a →
    IsLeastFrom nodes (start + m) n b → IsLeastFrom nodes start (m + n) (earlier_of a b)
both nodes start m n a b left right = record {
  one = one (lesser a b).one left.one right.one;
  least = λ i lt. least i lt (below_or_not i m);
}
  where
    one : {key : Key} → (key ≡ a) ⊎ (key ≡ b) → ((i : ℕ) × (i < m) × (key_at nodes (start + i) ≡ a)) →
        ((i : ℕ) × (i < n) × (key_at nodes (start + m + i) ≡ b)) →
        (i : ℕ) × (i < m + n) × (key_at nodes (start + i) ≡ key)
    one (inl e) (i, lt, same) y = (i, omega arith, same ∙ sym e)
    one (inr e) x (i, lt, same) =
        (m + i, omega arith, at_same nodes (start + (m + i)) (start + m + i) (omega arith) ∙ same ∙ sym e)

    least : (i : ℕ) → i < m + n → (i < m) ⊎ (m ≤ i) → IsNotAfter (earlier_of a b) (key_at nodes (start + i))
    least i lt (inl first) =
        not_after_trans (earlier_of a b) a (key_at nodes (start + i)) (lesser a b).first (left.least i first)
    least i lt (inr second) =
        let at = at_same nodes (start + m + (i - m)) (start + i) (omega arith) in
        not_after_trans (earlier_of a b) b (key_at nodes (start + i)) (lesser a b).second
        (subst (λ (k : Key). IsNotAfter b k) at (right.least (i - m) (omega arith)))

pub least_of_two : (nodes : List Key) (a b : Key) → 2 ≤ length nodes → a ≡ get_or nodes 0 a → b ≡ get_or nodes 1 b →
    IsLeastFrom nodes 0 2 (earlier_of a b)
least_of_two nodes a b within ea eb = both nodes 0 1 1 a b (alone nodes 0 a (omega arith) ea) (alone nodes 1 b (omega arith) eb)

pub least_of_four : (nodes : List Key) (start : ℕ) (a b c d : Key) → start + 4 ≤ length nodes →
    a ≡ get_or nodes start a → b ≡ get_or nodes (start + 1) b → c ≡ get_or nodes (start + 2) c →
    d ≡ get_or nodes (start + 3) d → IsLeastFrom nodes start 4 (earlier_of (earlier_of a b) (earlier_of c d))
least_of_four nodes start a b c d within ea eb ec ed =
    let last : d ≡ get_or nodes (start + 2 + 1) d = ed ∙ ap (λ (i : ℕ). get_or nodes i d) (omega arith) in
    let left = both nodes start 1 1 a b (alone nodes start a (omega arith) ea)
    (alone nodes (start + 1) b (omega arith) eb) in
    let right = both nodes (start + 2) 1 1 c d (alone nodes (start + 2) c (omega arith) ec)
    (alone nodes (start + 2 + 1) d (omega arith) last) in
    both nodes start 2 2 (earlier_of a b) (earlier_of c d) left right

-- the key that is read of one of some ranks
pub key_read : {A : Type 0} (key : A → Key) (ranks : List A) (place : ℕ) (a : A) → a ≡ get_or ranks place a →
    key a ≡ get_or (map key ranks) place (key a)
key_read key ranks place a read = ap key read ∙ sym (get_or-map key ranks place a)

-- one of the four that were cut out
pub one_of_four : {A : Type 0} (key : A → Key) (ranks : List A) (start i place : ℕ) (a : A) → i < 4 → start + i ≡ place →
    a ≡ get_or (take (start + 4 - start) (drop start ranks)) i a → key a ≡ get_or (map key ranks) place (key a)
one_of_four key ranks start i place a lt at read =
    key_read key ranks place a (read ∙ get_or-take (start + 4 - start) (drop start ranks) i a (omega arith)
    ∙ get_or-drop start ranks i a ∙ ap (λ (k : ℕ). get_or ranks k a) at)

-- ---- down the tree
-- a node's key is not after its child's
above : (first : ℕ) (nodes : List Key) (k j : ℕ) → IsTree first nodes → k < first → 4 * k + 2 ≤ j → j < 4 * k + 4 + 2 →
    IsNotAfter (key_at nodes k) (key_at nodes j)
above first nodes k j tree inner ge lt = subst (λ (key : Key). IsNotAfter (key_at nodes k) key)
    (at_same nodes (4 * k + 2 + (j - (4 * k + 2))) j (omega arith))
    ((tree.played k inner).least (j - (4 * k + 2)) (omega arith))

top_first : (first : ℕ) (nodes : List Key) (top : Key) (m j : ℕ) → IsTree first nodes → IsLeastFrom nodes 0 2 top →
    j ≤ m → j < 4 * first + 2 → IsNotAfter top (key_at nodes j)
top_first first nodes top m j tree least le lt = go m j le lt (top_or_not j)
  where
    top_or_not : (j : ℕ) → (j < 2) ⊎ (2 ≤ j)
    top_or_not j = grind arith

    go : (m j : ℕ) → j ≤ m → j < 4 * first + 2 → (j < 2) ⊎ (2 ≤ j) → IsNotAfter top (key_at nodes j)
    go m j le lt (inl few) =
        subst (λ (key : Key). IsNotAfter top key) (at_same nodes (0 + j) j (omega arith)) (least.least j few)
    go zero j le lt (inr more) = absurd (omega arith)
    go (suc m) j le lt (inr more) =
        let k = (j - 2) / 4 in
        not_after_trans top (key_at nodes k) (key_at nodes j)
        (go m k (omega arith) (omega arith) (top_or_not k))
        (above first nodes k j tree (omega arith) (omega arith) (omega arith))

-- ---- and up: a node's key is one of the leaves'
abbrev LeafWith : ℕ → List Key → Key → Type 0
LeafWith first nodes key = (disk : ℕ) × (key_at nodes (first + disk) ≡ key)

leaf_with : (first : ℕ) (nodes : List Key) (m k : ℕ) → IsTree first nodes → first ≤ k + m →
    LeafWith first nodes (key_at nodes k)
leaf_with first nodes m k tree le = go m k le (leaf_or_not k)
  where
    leaf_or_not : (k : ℕ) → (first ≤ k) ⊎ (k < first)
    leaf_or_not k = grind arith

    go : (m k : ℕ) → first ≤ k + m → (first ≤ k) ⊎ (k < first) → LeafWith first nodes (key_at nodes k)
    go m k le (inl leaf) = (k - first, at_same nodes (first + (k - first)) k (omega arith))
    go zero k le (inr inner) = absurd (omega arith)
    go (suc m) k le (inr inner) =
        let one = (tree.played k inner).one in
        let child : ℕ = 4 * k + 2 + one.0 in
        let leaf = go m child (omega arith) (leaf_or_not child) in
        (leaf.0, leaf.1 ∙ one.2)

-- ---- the least
pub top_is_least : (first : ℕ) (nodes : List Key) (top : Key) → 0 < length nodes → IsTree first nodes →
    IsLeastFrom nodes 0 2 top → IsLeastKey (drop first nodes) top
top_is_least first nodes top some tree least = record {
  one = λ s e.
      let leaf = leaf_with first nodes first least.one.0 tree (omega arith) in
      let at = at_same nodes least.one.0 (0 + least.one.0) (omega arith) in
      (leaf.0, get_or-drop first nodes leaf.0 None ∙ leaf.1 ∙ at ∙ least.one.2 ∙ e);
  least = λ i. rw (get_or-drop first nodes i None) (not_after i (within (first + i) (length nodes)));
}
  where
    within : (k n : ℕ) → (k < n) ⊎ (n ≤ k)
    within k n = grind arith

    not_after : (i : ℕ) → ((first + i) < length nodes) ⊎ (length nodes ≤ (first + i)) →
        IsNotAfter top (key_at nodes (first + i))
    not_after i (inl lt) =
        let len = tree.len some in
        top_first first nodes top (first + i) (first + i) tree least (omega arith) (omega arith)
    not_after i (inr ge) = rw (get_or_past nodes (first + i) None ge) tt

-- ---- playing again
pub same_or_not : (k n : ℕ) → (k ≡ n) ⊎ (k ≢ n)
same_or_not k n = grind arith

-- the same keys have the same least
pub same_least : (old new : List Key) (start many : ℕ) (key : Key) →
    ((i : ℕ) → i < many → key_at old (start + i) ≡ key_at new (start + i)) → IsLeastFrom old start many key →
    IsLeastFrom new start many key
same_least old new start many key same least = record {
  one = (least.one.0, least.one.1, sym (same least.one.0 least.one.1) ∙ least.one.2);
  least = λ i lt. subst (λ (k : Key). IsNotAfter key k) (same i lt) (least.least i lt);
}

-- the parent is played, and the rest but its own parent stay so
pub played_up : (first child parent : ℕ) (nodes : List Key) (key : Key) → first ≤ length nodes →
    IsTreeBut first child nodes → parent + 1 ≡ (child + 2) / 4 → parent < first →
    IsLeastFrom nodes (4 * parent + 2) 4 key → IsTreeBut first parent (set nodes parent key)
played_up first child parent nodes key len but above within least k inner other = go (same_or_not k parent)
  where
    stays : (n : ℕ) → n ≢ parent → key_at nodes n ≡ key_at (set nodes parent key) n
    stays n ne = sym (get_or-set_other nodes parent n key None ne)

    same : (i : ℕ) → i < 4 → key_at nodes (4 * k + 2 + i) ≡ key_at (set nodes parent key) (4 * k + 2 + i)
    same i lt = stays (4 * k + 2 + i) (omega arith)

    go : (k ≡ parent) ⊎ (k ≢ parent) → IsPlayed (set nodes parent key) k
    go (inl e) = subst (λ (v : Key). IsLeastFrom (set nodes parent key) (4 * k + 2) 4 v)
        (sym (get_or-set_same nodes parent key None (omega arith)) ∙ at_same (set nodes parent key) parent k (sym e))
        (same_least nodes (set nodes parent key) (4 * k + 2) 4 key same
        (subst (λ (n : ℕ). IsLeastFrom nodes (4 * n + 2) 4 key) (sym e) least))
    go (inr ne) = subst (λ (v : Key). IsLeastFrom (set nodes parent key) (4 * k + 2) 4 v) (stays k ne)
        (same_least nodes (set nodes parent key) (4 * k + 2) 4 (key_at nodes k) same (but k inner (omega arith)))

-- if the parent keeps its key, all are played
pub kept_up : (first child parent : ℕ) (nodes : List Key) → first ≤ 2 ^ 32 → length nodes ≡ 4 * first + 2 →
    IsTreeBut first child nodes → parent + 1 ≡ (child + 2) / 4 → IsPlayed nodes parent → IsTree first nodes
kept_up first child parent nodes most len but above here = record {
  most = most;
  within = omega arith;
  len = λ some. len;
  played = λ k inner. at k inner (same_or_not k parent);
}
  where
    at : (k : ℕ) → k < first → (k ≡ parent) ⊎ (k ≢ parent) → IsPlayed nodes k
    at k inner (inl e) = subst (λ (n : ℕ). IsPlayed nodes n) (sym e) here
    at k inner (inr ne) = but k inner (omega arith)

-- a new key of a leaf leaves all nodes played but its parent
pub leaf_set : (first leaf : ℕ) (nodes : List Key) (key : Key) → first ≤ leaf → IsTree first nodes →
    IsTreeBut first leaf (set nodes leaf key)
leaf_set first leaf nodes key after tree k inner other =
    subst (λ (v : Key). IsLeastFrom (set nodes leaf key) (4 * k + 2) 4 v) (stays k (omega arith))
    (same_least nodes (set nodes leaf key) (4 * k + 2) 4 (key_at nodes k) same (tree.played k inner))
  where
    stays : (n : ℕ) → n ≢ leaf → key_at nodes n ≡ key_at (set nodes leaf key) n
    stays n ne = sym (get_or-set_other nodes leaf n key None ne)

    same : (i : ℕ) → i < 4 → key_at nodes (4 * k + 2 + i) ≡ key_at (set nodes leaf key) (4 * k + 2 + i)
    same i lt = stays (4 * k + 2 + i) (omega arith)

-- playing changes no leaf but the one that was set
pub set_leaves : {A : Type 0} (key : A → Key) (first place : ℕ) (old new before after : List A) (a : A) {keys : List Key} →
    new ≡ after → drop first after ≡ drop first before → before ≡ set old (first + place) a → drop first (map key old) ≡ keys →
    drop first (map key new) ≡ set keys place (key a)
set_leaves key first place old new before after a now same is view =
    let leaves = ap (drop first) now ∙ same ∙ ap (drop first) is in
    drop-map key first new ∙ ap (map key) leaves ∙ sym (drop-map key first _)
    ∙ ap (drop first) (map-set key old (first + place) a) ∙ drop-set-add first (map key old) place (key a)
    ∙ ap (λ (ks : List Key). set ks place (key a)) view

-- ---- more room
-- if no key is set, no disk has one
pub none_at : (n disk : ℕ) → key_at (replicate n None) disk ≡ None
none_at n disk = at (below_or_not disk n)
  where
    at : (disk < n) ⊎ (n ≤ disk) → key_at (replicate n None) disk ≡ None
    at (inl lt) = get_or-replicate n disk None None lt
    at (inr ge) = get_or_past (replicate n None) disk None (let len = length-replicate {A = Key} n None in omega arith)

-- ranks of no key
map_blank : {A : Type 0} (key : A → Key) (n : ℕ) (a : A) → key a ≡ None → map key (replicate n a) ≡ replicate n None
map_blank key zero a none = refl
map_blank key (suc n) a none = λ i. none i ∷ map_blank key n a none i

pub blank_keys : {A : Type 0} (key : A → Key) (ranks : List A) (n : ℕ) (a : A) → ranks ≡ replicate n a → key a ≡ None →
    map key ranks ≡ replicate n None
blank_keys key ranks n a is none = ap (map key) is ∙ map_blank key n a none

-- a tree without keys
pub blank_tree : (first : ℕ) (nodes : List Key) → first ≤ 2 ^ 32 → nodes ≡ replicate (4 * first + 2) None → IsTree first nodes
blank_tree first nodes most blank =
    let len : length nodes ≡ 4 * first + 2 = ap length blank ∙ length-replicate {A = Key} (4 * first + 2) None in
    record {
      most = most;
      within = omega arith;
      len = λ some. len;
      played = λ k inner. subst (λ (v : List Key). IsPlayed v k) (sym blank) (played k);
    }
  where
    none : (k : ℕ) → key_at (replicate (4 * first + 2) None) k ≡ None
    none k = none_at (4 * first + 2) k

    played : (k : ℕ) → IsPlayed (replicate (4 * first + 2) None) k
    played k = rw (none k) record { one = (0, omega arith, none (4 * k + 2 + 0)); least = λ i lt. rw (none (4 * k + 2 + i)) tt }

-- its leaves are free, and many enough
pub blank_leaves : (first : ℕ) (nodes : List Key) → nodes ≡ replicate (4 * first + 2) None →
    (length (drop first nodes) ≡ 3 * first + 2) × ((disk : ℕ) → key_at (drop first nodes) disk ≡ None)
blank_leaves first nodes blank =
    let leaves : drop first nodes ≡ replicate (4 * first + 2 - first) None =
    ap (λ (v : List Key). drop first v) blank ∙ drop-replicate first (4 * first + 2) None in
    let len = ap length leaves ∙ length-replicate {A = Key} (4 * first + 2 - first) None in
    (omega (arith, len), λ disk. ap (λ (v : List Key). key_at v disk) leaves ∙ none_at (4 * first + 2 - first) disk)

-- a disk's key is in the node of its leaf
pub leaf_within : (first disk : ℕ) (nodes keys : List Key) → drop first nodes ≡ keys → disk < length keys → first + disk < length nodes
leaf_within first disk nodes keys view lt = let len = ap length view in let left = length-drop first nodes in omega arith

-- no key is the least of none
pub none_least : (first : ℕ) (nodes keys : List Key) → drop first nodes ≡ keys → length nodes ≡ 0 → IsLeastKey keys None
none_least first nodes keys view none =
    empty keys (let len = ap length view in let left = length-drop first nodes in omega arith)
  where
    never : (s : Stamp) → ¬ (None ≡ Some s)
    never s e = cc

    empty : (keys : List Key) → length keys ≡ 0 → IsLeastKey keys None
    empty [] e = record { one = λ s is. absurd (never s is); least = λ disk. tt }
    empty (key ∷ keys) e = absurd (omega arith)
