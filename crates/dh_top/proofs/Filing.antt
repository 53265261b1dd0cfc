-- Entries that a desk has kept.
use Rattle.std.proofs.Common.{◌≡◌, ◌⊎◌, inl, inr, ℕ, zero, suc, ◌+◌, ◌-◌, ◌^◌, ◌≤◌, ◌<◌, List, [], ◌∷◌, ◌++◌, length, map, take, slice_index_or, Option, Some, None, Result, Ok, Err, refl, sym, ap, ◌∙◌, subst, arith}
use Rattle.std.specs.Prelude.{All, option_map, slice_set, IfOk, OnOk, OnErr}
use Rattle.std.proofs.lemmas.List.{append_assoc, append-nil, length-append, length-map}
use Rattle.std.proofs.Math.Seq.{take-append_seam}
use Rattle.dh_ports.specs.Counts.{Rose}
use Rattle.dh_ports.specs.declared.mem_desks.CacheEntry.{CacheEntry}
use Rattle.dh_syntax.specs.declared.locations.Digest.{Digest}
use Rattle.dh_imports.specs.Machine.{IsAmong}
use Rattle.dh_imports.specs.Replay.{RootEnd, ready, bad, looped, too_many, root_end}
use Rattle.dh_syntax.specs.Limits.{most_entry_bytes}
use Rattle.dh_table.specs.Kept.{IsKeeping}
use Rattle.dh_record.specs.Kept.{pair_of}
use Rattle.dh_table.specs.Shown.{Shown}
use Rattle.dh_table.specs.States.{state_of}
use Rattle.dh_session.specs.Works.{AtLast}
use Rattle.dh_top.specs.Outside.{Pair, SomeOf, none_of, with_this, without_this, FilesSome, FilesAll, AtFirst, at_first}

-- some of the first and some of the second
none_then : (ps : List Pair) {kept qs : List Pair} → SomeOf kept qs → SomeOf kept (ps ++ qs)
none_then [] s = s
none_then (p ∷ ps) s = without_this (none_then ps s)

pub some_both : {k l ps qs : List Pair} → SomeOf k ps → SomeOf l qs → SomeOf (k ++ l) (ps ++ qs)
some_both (none_of {pairs = ps}) s = none_then ps s
some_both (with_this r) s = with_this (some_both r s)
some_both (without_this r) s = without_this (some_both r s)

pub some_more : {k ps : List Pair} (qs : List Pair) → SomeOf k ps → SomeOf k (ps ++ qs)
some_more qs none_of = none_of
some_more qs (with_this r) = with_this (some_more qs r)
some_more qs (without_this r) = without_this (some_more qs r)

pub filed_both : (a b c : Option (List Pair)) (k l : List Pair) → b ≡ option_map (λ old. old ++ k) a → c ≡ option_map (λ old. old ++ l) b
    → c ≡ option_map (λ old. old ++ (k ++ l)) a
filed_both None b c k l p q = q ∙ ap (option_map (λ old. old ++ l)) p
filed_both (Some x) b c k l p q = q ∙ ap (option_map (λ old. old ++ l)) p ∙ ap (λ z. Some z) (append_assoc x k l)

filed_same : (a b : Option (List Pair)) → b ≡ a → b ≡ option_map (λ old. old ++ []) a
filed_same None b e = e
filed_same (Some x) b e = e ∙ ap (λ z. Some z) (sym (append-nil x))

-- nothing of nothing
pub files_nothing : (f : ℕ) (a : Option (List Pair)) → FilesAll f f a a []
files_nothing f a = record { kept = []; files = record { some = none_of; filed_is = filed_same a a refl }; few = inr (omega arith) }

-- one entry, kept or not
pub files_one : (f g : ℕ) (a b : Option (List Pair)) (d : Digest) (bytes slice : List ℕ) → slice ≡ bytes → g ≡ f → b ≡ option_map (λ old. old ++ (d, slice) ∷ []) a
    → FilesAll f g a b ((d, bytes) ∷ [])
files_one f g a b d bytes slice same quiet kept = record {
  kept = (d, bytes) ∷ [];
  files = record { some = with_this none_of; filed_is = kept ∙ ap (λ s. option_map (λ old. old ++ (d, s) ∷ []) a) same };
  few = inr (omega (arith, quiet));
}

rose_few : (f g : ℕ) → Rose f g → AtLast g ⊎ (1 + f ≤ 0 + g)
rose_few f g (inl l) = inr (omega (arith, l))
rose_few f g (inr (p, q)) = inl (omega (arith, q))

pub files_not : (f g : ℕ) (a b : Option (List Pair)) (p : Pair) → Rose f g → b ≡ a → FilesAll f g a b (p ∷ [])
files_not f g a b p rose same = record { kept = []; files = record { some = none_of; filed_is = filed_same a b same }; few = rose_few f g rose }

few_both : (f g h m n k l : ℕ) → g ≤ h → AtLast g ⊎ (m + f ≤ k + g) → AtLast h ⊎ (n + g ≤ l + h) → AtLast h ⊎ (m + n + f ≤ k + l + h)
few_both f g h m n k l up (inl p) q = inl (omega (arith, p, up))
few_both f g h m n k l up (inr p) (inl q) = inl q
few_both f g h m n k l up (inr p) (inr q) = inr (omega (arith, p, q))

pub files_both : (f g h : ℕ) (a b c : Option (List Pair)) (ps qs : List Pair) → g ≤ h → FilesAll f g a b ps → FilesAll g h b c qs → FilesAll f h a c (ps ++ qs)
files_both f g h a b c ps qs up x y = record {
  kept = x.kept ++ y.kept;
  files = record { some = some_both x.files.some y.files.some; filed_is = filed_both a b c x.kept y.kept x.files.filed_is y.files.filed_is };
  few = subst (λ n. AtLast h ⊎ (n + f ≤ length (x.kept ++ y.kept) + h)) (sym (length-append ps qs))
      (subst (λ n. AtLast h ⊎ (length ps + length qs + f ≤ n + h)) (sym (length-append x.kept y.kept)) (few_both f g h (length ps) (length qs) (length x.kept) (length y.kept) up x.few y.few));
}

-- some of the first of many
pub files_some_of : (f g : ℕ) (a b : Option (List Pair)) (ps qs : List Pair) → FilesAll f g a b ps → (kept : List Pair) × FilesSome a b (ps ++ qs) kept
files_some_of f g a b ps qs x = (x.kept, record { some = some_more qs x.files.some; filed_is = x.files.filed_is })

pub files_all_some : (f g : ℕ) (a b : Option (List Pair)) (ps : List Pair) → FilesAll f g a b ps → (kept : List Pair) × FilesSome a b ps kept
files_all_some f g a b ps x = (x.kept, x.files)

-- ---- entries one after another

pairs_append : (es fs : List CacheEntry) → map pair_of (es ++ fs) ≡ map pair_of es ++ map pair_of fs
pairs_append [] fs = refl
pairs_append (e ∷ es) fs = ap (λ ps. pair_of e ∷ ps) (pairs_append es fs)

-- of those that are done, and of all
pub part_of : (f g : ℕ) (a b c : Option (List Pair)) (done left all : List CacheEntry) → done ++ left ≡ all → FilesAll f g a b (map pair_of done) → c ≡ b
    → (kept : List Pair) × FilesSome a c (map pair_of all) kept
part_of f g a b c done left all e x same =
    (x.kept, record { some = subst (λ ps. SomeOf x.kept ps) (sym (pairs_append done left) ∙ ap (map pair_of) e) (some_more (map pair_of left) x.files.some); filed_is = same ∙ x.files.filed_is })

-- one more is done
pub one_done : (f g h : ℕ) (a b c : Option (List Pair)) (done left all : List CacheEntry) (e : CacheEntry) (rest : List CacheEntry) → done ++ left ≡ all → left ≡ e ∷ rest → g ≤ h
    → FilesAll f g a b (map pair_of done) → FilesAll g h b c (pair_of e ∷ []) → (now : List CacheEntry) × (now ++ rest ≡ all) × FilesAll f h a c (map pair_of now)
one_done f g h a b c done left all e rest whole split up x y = (
  done ++ e ∷ [],
  append_assoc done (e ∷ []) rest ∙ ap (λ l. done ++ l) (sym split) ∙ whole,
  subst (FilesAll f h a c) (sym (pairs_append done (e ∷ []))) (files_both f g h a b c (map pair_of done) (pair_of e ∷ []) up x y),
)

-- all are done
pub all_done : (f g : ℕ) (a b : Option (List Pair)) (done left all : List CacheEntry) → done ++ left ≡ all → left ≡ [] → FilesAll f g a b (map pair_of done) → FilesAll f g a b (map pair_of all)
all_done f g a b done left all e none x = subst (λ es. FilesAll f g a b (map pair_of es)) (sym (append-nil done) ∙ ap (λ l. done ++ l) (sym none) ∙ e) x

-- ---- the first desk

pub on_ok_map : {T E Q P : Type 0} (r : Result T E) → (Q → P) → OnOk r Q → OnOk r P
on_ok_map (Ok x) f q = f q
on_ok_map (Err e) f q = tt

pub on_err_map : {T E Q P : Type 0} (r : Result T E) → (Q → P) → OnErr r Q → OnErr r P
on_err_map (Ok x) f q = tt
on_err_map (Err e) f q = f q

pub on_err_of : {T E P : Type 0} (r : Result T E) → P → OnErr r P
on_err_of (Ok x) p = tt
on_err_of (Err e) p = p

pub on_ok_of : {T E P : Type 0} (r : Result T E) → P → OnOk r P
on_ok_of (Ok x) p = p
on_ok_of (Err e) p = tt

pub ok_map : {T E : Type 0} (r : Result T E) {P Q : T → Type 0} → ((x : T) → P x → Q x) → IfOk r P → IfOk r Q
ok_map (Ok x) f p = f x p
ok_map (Err e) f p = tt

-- ---- desks that are seen through a slice, which writes them back

at_first_len : {D : Type 0} {P : D → D → Type 0} {ds es : List D} → AtFirst P ds es → length es ≡ length ds
at_first_len (at_first h) = refl

written_back : {D : Type 0} (P : D → D → Type 0) (seen mid new rest : List D) (n : ℕ) → seen ≡ mid → n ≡ length mid → AtFirst P seen new → AtFirst P mid (take n (new ++ rest))
written_back P seen mid new rest n same len k =
    let all : n ≡ length new = len ∙ (sym (ap length same) ∙ sym (at_first_len k)) in
    let whole : take n (new ++ rest) ≡ new = ap (λ m. take m (new ++ rest)) all ∙ take-append_seam new rest in
    subst (λ ds. AtFirst P ds (take n (new ++ rest))) same (subst (λ es. AtFirst P seen es) (sym whole) k)

pub ok_seen : {D T E : Type 0} (P : D → D → Type 0) (seen mid new rest : List D) (n : ℕ) (r : Result T E) → seen ≡ mid → n ≡ length mid → OnOk r (AtFirst P seen new)
    → OnOk r (AtFirst P mid (take n (new ++ rest)))
ok_seen P seen mid new rest n r same len k = on_ok_map r (written_back P seen mid new rest n same len) k

pub err_seen : {D T E : Type 0} (P : D → D → Type 0) (seen mid new rest : List D) (n : ℕ) (r : Result T E) → seen ≡ mid → n ≡ length mid → OnErr r (AtFirst P seen new)
    → OnErr r (AtFirst P mid (take n (new ++ rest)))
err_seen P seen mid new rest n r same len k = on_err_map r (written_back P seen mid new rest n same len) k

-- a count that each desk keeps
pub same_seen : {D : Type 0} (f : D → ℕ) (seen mid new rest : List D) (n : ℕ) → seen ≡ mid → n ≡ length mid → map f new ≡ map f seen → map f (take n (new ++ rest)) ≡ map f mid
same_seen f seen mid new rest n same len k =
    let lens : length new ≡ length seen = sym (length-map new f) ∙ (ap length k ∙ length-map seen f) in
    let all : n ≡ length new = len ∙ (sym (ap length same) ∙ sym lens) in
    let whole : take n (new ++ rest) ≡ new = ap (λ m. take m (new ++ rest)) all ∙ take-append_seam new rest in
    ap (map f) whole ∙ (k ∙ ap (map f) same)

pub first_set : {D : Type 0} (P : D → D → Type 0) (ds : List D) (d e : D) → 0 < length ds → P (slice_index_or ds 0 d) e → AtFirst P ds (slice_set ds 0 e)
first_set P [] d e some p = absurd (omega (arith, some))
first_set P (x ∷ xs) d e some p = at_first p

-- a count that the first desk keeps
pub first_same : {D : Type 0} (f : D → ℕ) (ds : List D) (d e : D) → 0 < length ds → f e ≡ f (slice_index_or ds 0 d) → map f (slice_set ds 0 e) ≡ map f ds
first_same f [] d e some h = absurd (omega (arith, some))
first_same f (x ∷ xs) d e some h = ap (λ n. n ∷ map f xs) h

-- ---- entries that may be kept

among_get : (es : List CacheEntry) (k : ℕ) (d : CacheEntry) → k < length es → IsAmong (pair_of (slice_index_or es k d)) (map pair_of es)
among_get [] k d lt = absurd (omega (arith, lt))
among_get (e ∷ es) zero d lt = inl refl
among_get (e ∷ es) (suc k) d lt = inr (among_get es k d (omega (arith, lt)))

small_by : (t : Shown) (o : Option RootEnd) (es : List CacheEntry) → IsKeeping (state_of t) o (map pair_of es) → All (λ e. length e.bytes ≤ most_entry_bytes) es
small_by t (Some (ready v)) es (n, keeps) k d lt = ((keeps.members (pair_of (slice_index_or es k d))).0 (among_get es k d lt)).small
small_by t (Some (bad b)) es none k d lt = absurd (subst (λ ps. IsAmong (pair_of (slice_index_or es k d)) ps) none (among_get es k d lt))
small_by t (Some (looped j)) es none k d lt = absurd (subst (λ ps. IsAmong (pair_of (slice_index_or es k d)) ps) none (among_get es k d lt))
small_by t (Some too_many) es none k d lt = absurd (subst (λ ps. IsAmong (pair_of (slice_index_or es k d)) ps) none (among_get es k d lt))
small_by t None es none k d lt = absurd (subst (λ ps. IsAmong (pair_of (slice_index_or es k d)) ps) none (among_get es k d lt))

pub small_keeps : (t : Shown) (es fs : List CacheEntry) → fs ≡ es → IsKeeping (state_of t) (root_end (state_of t)) (map pair_of es) → All (λ e. length e.bytes ≤ most_entry_bytes) fs
small_keeps t es fs same keeps = subst (All (λ e. length e.bytes ≤ most_entry_bytes)) (sym same) (small_by t (root_end (state_of t)) es keeps)

-- the first desk kept the entries, as they are seen through a slice
pub kept_seen : {D : Type 0} (faults : D → ℕ) (filed : D → Option (List Pair)) (es fs : List CacheEntry) (ds ds' : List D) → fs ≡ es
    → AtFirst (λ d e. (faults d ≤ faults e) × FilesAll (faults d) (faults e) (filed d) (filed e) (map pair_of fs)) ds ds'
    → AtFirst (λ d e. (faults d ≤ faults e) × FilesAll (faults d) (faults e) (filed d) (filed e) (map pair_of es)) ds ds'
kept_seen faults filed es fs ds ds' same k =
    subst (λ xs. AtFirst (λ d e. (faults d ≤ faults e) × FilesAll (faults d) (faults e) (filed d) (filed e) (map pair_of xs)) ds ds') same k

pub part_seen : {D : Type 0} (faults : D → ℕ) (filed : D → Option (List Pair)) (es fs : List CacheEntry) (ds ds' : List D) → fs ≡ es
    → AtFirst (λ d e. (faults d ≤ faults e) × ((kept : List Pair) × FilesSome (filed d) (filed e) (map pair_of fs) kept)) ds ds'
    → AtFirst (λ d e. (faults d ≤ faults e) × ((kept : List Pair) × FilesSome (filed d) (filed e) (map pair_of es) kept)) ds ds'
part_seen faults filed es fs ds ds' same k =
    subst (λ xs. AtFirst (λ d e. (faults d ≤ faults e) × ((kept : List Pair) × FilesSome (filed d) (filed e) (map pair_of xs) kept)) ds ds') same k

pub kept_part : {D : Type 0} (faults : D → ℕ) (filed : D → Option (List Pair)) (ps : List Pair) (ds ds' : List D)
    → AtFirst (λ d e. (faults d ≤ faults e) × FilesAll (faults d) (faults e) (filed d) (filed e) ps) ds ds'
    → AtFirst (λ d e. (faults d ≤ faults e) × ((kept : List Pair) × FilesSome (filed d) (filed e) ps kept)) ds ds'
kept_part faults filed ps ds ds' (at_first h) = at_first (h.0, (h.1.kept, h.1.files))
