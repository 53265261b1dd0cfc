-- Keys that are added at the end keep the numbers of those before them.
use Rattle.std.specs.Prelude.{◌≡◌, ◌<◌, ◌≤◌, ℕ, suc, Bool, true, false, ◌||◌, if◌then◌else◌, List, [], ◌∷◌, ◌++◌, length, take, drop, Option, Some, None, is_some, MatchOption, All, refl}
use Rattle.std.specs.Option.{option_map}
use Rattle.std.proofs.Common.{ap, sym, ◌∙◌, subst, arith, append_assoc, append-nil}
use Rattle.std.proofs.lemmas.List.{map-append, length-append, length-map, take-append-drop}
use Rattle.std.proofs.lemmas.List.Elements.{All-append, All-nil, All-cons, All-weaker}
use Rattle.dh_syntax.specs.declared.locations.Key.{Key}
use Rattle.dh_syntax.specs.declared.locations.Loc.{Loc}
use Rattle.dh_imports.specs.declared.outcomes.Outcome as program
use Rattle.dh_syntax.specs.Imports.Keys.{bare, key_eq}
use Rattle.dh_syntax.specs.Imports.Locations.{loc_text}
use Rattle.dh_imports.specs.Resolver.{is_in}
use Rattle.dh_laws.proofs.KeyOrder.{none-some, key_eq-itself}
use Rattle.dh_demand.specs.declared.scans.Edge.{Edge}
use Rattle.dh_demand.specs.Results.{Row, number_of}
use Rattle.dh_demand.specs.Scans.{IsEdge}
use Rattle.dh_record.specs.declared.rows.recorded.Entrant.{Entrant}
use Rattle.dh_record.specs.Rows.{rows_of, row_of_entrant}
use Rattle.dh_record.specs.Entering.{key_of_entrant, keys_in, with_key, entered, entered_all, IsListed, IsNew, IsEntrant, AreMore, AreEdges}

-- ---- numbers

or_number : (b c : Bool) (o : Option ℕ) → c ≡ is_some o → (b || c) ≡ is_some (if b then Some 0 else option_map suc o)
or_number true c o p = refl
or_number false c None p = p
or_number false c (Some n) p = p

-- a key has a number where it is among the keys
pub in_number : (es : List Entrant) (k : Key) → is_in k (keys_in es) ≡ is_some (number_of (rows_of es) k)
in_number [] k = refl
in_number (e ∷ es) k = or_number (key_eq e.key k) (is_in k (keys_in es)) (number_of (rows_of es) k) (in_number es k)

grown_step : (b : Bool) (o p : Option ℕ) (n : ℕ) → ((m : ℕ) → o ≡ Some m → p ≡ Some m) → (if b then Some 0 else option_map suc o) ≡ Some n → (if b then Some 0 else option_map suc p) ≡ Some n
grown_step true o p n f h = h
grown_step false None p n f h = none-some refl h
grown_step false (Some m) p n f h = ap (option_map suc) (f m refl) ∙ h

pub number_grown : (rows more : List Row) (k : Key) (n : ℕ) → number_of rows k ≡ Some n → number_of (rows ++ more) k ≡ Some n
number_grown [] more k n h = none-some refl h
number_grown (r ∷ rs) more k n h = grown_step (key_eq r.0 k) (number_of rs k) (number_of (rs ++ more) k) n (λ m e. number_grown rs more k m e) h

last_step : (b : Bool) (o p : Option ℕ) (n : ℕ) → (o ≡ None → p ≡ Some n) → (if b then Some 0 else option_map suc o) ≡ None → (if b then Some 0 else option_map suc p) ≡ Some (suc n)
last_step true o p n f h = none-some h refl
last_step false None p n f h = ap (option_map suc) (f refl)
last_step false (Some m) p n f h = none-some h refl

pub number_last : (rows : List Row) (k : Key) (o : Option program.Outcome) → number_of rows k ≡ None → number_of (rows ++ (k, o) ∷ []) k ≡ Some (length rows)
number_last [] k o h = ap (λ b. if b then Some 0 else None) (key_eq-itself k)
number_last (r ∷ rs) k o h = last_step (key_eq r.0 k) (number_of rs k) (number_of (rs ++ (k, o) ∷ []) k) (length rs) (λ e. number_last rs k o e) h

pub rows-append : (es fs : List Entrant) → rows_of (es ++ fs) ≡ rows_of es ++ rows_of fs
rows-append es fs = map-append row_of_entrant es fs

-- the same by the lists of keys
pub entrant_grown : (es fs : List Entrant) (k : Key) (n : ℕ) → number_of (rows_of es) k ≡ Some n → number_of (rows_of (es ++ fs)) k ≡ Some n
entrant_grown es fs k n h = subst (λ rs. number_of rs k ≡ Some n) (sym (rows-append es fs)) (number_grown (rows_of es) (rows_of fs) k n h)

pub entrant_last : (es : List Entrant) (e : Entrant) → number_of (rows_of es) e.key ≡ None → number_of (rows_of (es ++ e ∷ [])) e.key ≡ Some (length es)
entrant_last es e h =
    subst (λ rs. number_of rs e.key ≡ Some (length es)) (sym (rows-append es (e ∷ [])))
    (number_last (rows_of es) e.key e.outcome h ∙ ap Some (rows-length es))
  where
    rows-length : (xs : List Entrant) → length (rows_of xs) ≡ length xs
    rows-length [] = refl
    rows-length (x ∷ xs) = ap suc (rows-length xs)

-- ---- keys that are added

pub bare_itself : (k : Key) → k.digest ≡ None → bare k ≡ k
bare_itself k h = λ i. record k { digest = sym h i }

listed_grown : (es fs : List Entrant) (e : Entrant) → IsListed (rows_of es) e → IsListed (rows_of (es ++ fs)) e
listed_grown es fs e l = record { text_is = l.text_is; bare_is = entrant_grown es fs (bare e.key) e.unfrozen l.bare_is }

pub all_listed_grown : (es fs more : List Entrant) → All (IsListed (rows_of es)) more → All (IsListed (rows_of (es ++ fs))) more
all_listed_grown es fs more h = All-weaker (IsListed (rows_of es)) (IsListed (rows_of (es ++ fs))) (λ e l. listed_grown es fs e l) more h

-- nothing is added where the key is there
pub added_none : (es : List Entrant) (k : Key) (n : ℕ) → Some n ≡ number_of (rows_of es) k → AreMore es (with_key (keys_in es) k) es
added_none es k n h =
    record {
      more = [];
      new_is = sym (append-nil es);
      keys_are = sym (ap (λ b. if b then keys_in es else keys_in es ++ k ∷ []) (in_number es k ∙ sym (ap is_some h)));
      listed = All-nil (IsListed (rows_of es));
      are_new = All-nil IsNew;
    }

module _ (es : List Entrant) (k : Key) (u : ℕ) (e : Entrant) (n : IsEntrant k u e) (h : None ≡ number_of (rows_of es) k) where
  pub last_number : number_of (rows_of (es ++ e ∷ [])) k ≡ Some (length es)
  last_number =
      subst (λ j. number_of (rows_of (es ++ e ∷ [])) j ≡ Some (length es)) n.key_is
      (entrant_last es e (subst (λ j. number_of (rows_of es) j ≡ None) (sym n.key_is) (sym h)))

  -- the number of the key without its digest
  pub last_unfrozen : (o : Option ℕ) → MatchOption o (k.digest ≡ None) (λ b. number_of (rows_of es) (bare k) ≡ Some b) → MatchOption o (u ≡ length es) (λ b. u ≡ b)
      → number_of (rows_of (es ++ e ∷ [])) (bare k) ≡ Some u
  last_unfrozen None d p = ap (number_of (rows_of (es ++ e ∷ []))) (bare_itself k d) ∙ last_number ∙ ap Some (sym p)
  last_unfrozen (Some b) d p = entrant_grown es (e ∷ []) (bare k) b d ∙ ap Some (sym p)

  pub added_last : (fs : List Entrant) → fs ≡ es ++ e ∷ [] → number_of (rows_of (es ++ e ∷ [])) (bare k) ≡ Some u → AreMore es (with_key (keys_in es) k) fs
  added_last fs p b =
      subst (λ (xs : List Entrant). AreMore es (with_key (keys_in es) k) xs) (sym p)
      (record {
        more = e ∷ [];
        new_is = refl;
        keys_are =
            map-append (λ (x : Entrant). x.key) es (e ∷ [])
            ∙ ap (λ j. keys_in es ++ j ∷ []) n.key_is
            ∙ sym (ap (λ b. if b then keys_in es else keys_in es ++ k ∷ []) (in_number es k ∙ sym (ap is_some h)));
        listed =
            All-cons (IsListed (rows_of (es ++ e ∷ []))) e []
            (record {
              text_is = n.text_is ∙ ap (λ (j : Key). loc_text j.loc) (sym n.key_is);
              bare_is = ap (λ j. number_of (rows_of (es ++ e ∷ [])) (bare j)) n.key_is ∙ b ∙ ap Some (sym n.unfrozen_is);
            })
            (All-nil (IsListed (rows_of (es ++ e ∷ []))));
        are_new = All-cons IsNew e [] (record { undecided = n.undecided; own_is = n.own_is ∙ ap Some (sym n.key_is) }) (All-nil IsNew);
      })

pub more_joined : (a b c : List Entrant) (ks ls : List Key) → AreMore a ks b → AreMore b ls c → AreMore a ls c
more_joined a b c ks ls p q =
    record {
      more = p.more ++ q.more;
      new_is = q.new_is ∙ ap (λ xs. xs ++ q.more) p.new_is ∙ append_assoc a p.more q.more;
      keys_are = q.keys_are;
      listed =
          All-append (IsListed (rows_of c)) p.more q.more
          (subst (λ xs. All (IsListed (rows_of xs)) p.more) (sym q.new_is) (all_listed_grown b q.more p.more p.listed))
          q.listed;
      are_new = All-append IsNew p.more q.more p.are_new q.are_new;
    }

-- the keys of the second are those of the first and what was added
pub more_keys : (a b : List Entrant) (ks ls : List Key) → ks ≡ ls → AreMore a ks b → AreMore a ls b
more_keys a b ks ls p h = subst (λ xs. AreMore a xs b) p h

pub more_none : (a : List Entrant) → AreMore a (keys_in a) a
more_none a = record { more = []; new_is = sym (append-nil a); keys_are = refl; listed = All-nil (IsListed (rows_of a)); are_new = All-nil IsNew }

-- ---- edges

pub edge_grown : (parent : Option Loc) (es fs : List Entrant) (k : Key) (e : Edge) → IsEdge parent (rows_of es) k e → IsEdge parent (rows_of (es ++ fs)) k e
edge_grown parent es fs k e h = record { numbered = entrant_grown es fs k e.key h.numbered; sane_is = h.sane_is }

edges_grown : (parent : Option Loc) (es fs : List Entrant) (ks : List Key) (ds : List Edge) → AreEdges parent (rows_of es) ks ds → AreEdges parent (rows_of (es ++ fs)) ks ds
edges_grown parent es fs [] [] h = tt
edges_grown parent es fs [] (d ∷ ds) h = absurd h
edges_grown parent es fs (k ∷ ks) [] h = absurd h
edges_grown parent es fs (k ∷ ks) (d ∷ ds) h = (edge_grown parent es fs k d h.0, edges_grown parent es fs ks ds h.1)

pub edges_push : (parent : Option Loc) (rows : List Row) (ks : List Key) (ds : List Edge) (k : Key) (d : Edge) → AreEdges parent rows ks ds → IsEdge parent rows k d → AreEdges parent rows (ks ++ k ∷ []) (ds ++ d ∷ [])
edges_push parent rows [] [] k d h e = (e, tt)
edges_push parent rows [] (x ∷ xs) k d h e = absurd h
edges_push parent rows (j ∷ js) [] k d h e = absurd h
edges_push parent rows (j ∷ js) (x ∷ xs) k d h e = (h.0, edges_push parent rows js xs k d h.1 e)

pub edges_more : (parent : Option Loc) (a b : List Entrant) (ls ks : List Key) (ds : List Edge) → AreMore a ls b → AreEdges parent (rows_of a) ks ds → AreEdges parent (rows_of b) ks ds
edges_more parent a b ls ks ds m h = subst (λ xs. AreEdges parent (rows_of xs) ks ds) (sym m.new_is) (edges_grown parent a m.more ks ds h)

-- ---- all of a list

pub entered-push : (ks js : List Key) (j : Key) → entered_all ks (js ++ j ∷ []) ≡ entered (entered_all ks js) j
entered-push ks [] j = refl
entered-push ks (i ∷ is) j = entered-push (entered ks i) is j

pub entered_step : (a b c : List Entrant) (k j : Key) → j ≡ bare k → AreMore a (with_key (keys_in a) j) b → AreMore b (with_key (keys_in b) k) c → AreMore a (entered (keys_in a) k) c
entered_step a b c k j p m n =
    more_joined a b c (with_key (keys_in a) j) (entered (keys_in a) k) m
    (more_keys b c (with_key (keys_in b) k) (entered (keys_in a) k) (ap (λ ks. with_key ks k) (m.keys_are ∙ ap (with_key (keys_in a)) p)) n)

-- ---- keys only grow

with_key_longer : (ks : List Key) (k : Key) → length ks ≤ length (with_key ks k)
with_key_longer ks k = go (is_in k ks)
  where
    go : (b : Bool) → length ks ≤ length (if b then ks else ks ++ k ∷ [])
    go true = omega arith
    go false = omega (arith, length-append ks (k ∷ []))

entered_longer : (ks js : List Key) → length ks ≤ length (entered_all ks js)
entered_longer ks [] = omega arith
entered_longer ks (j ∷ js) =
    let a = with_key_longer ks (bare j) in
    let b = with_key_longer (with_key ks (bare j)) j in
    let c = entered_longer (entered ks j) js in
    omega arith

entered_joined : (ks js ls : List Key) → entered_all ks (js ++ ls) ≡ entered_all (entered_all ks js) ls
entered_joined ks [] ls = refl
entered_joined ks (j ∷ js) ls = entered_joined (entered ks j) js ls

-- the first imports bring no more keys than all
pub first_fewer : (ks js : List Key) (i : ℕ) → length (entered_all ks (take i js)) ≤ length (entered_all ks js)
first_fewer ks js i =
    let all : entered_all ks js ≡ entered_all (entered_all ks (take i js)) (drop i js) = ap (entered_all ks) (sym (take-append-drop i js)) ∙ entered_joined ks (take i js) (drop i js) in
    subst (λ xs. length (entered_all ks (take i js)) ≤ length xs) (sym all) (entered_longer (entered_all ks (take i js)) (drop i js))

pub many_entered : (a b : List Entrant) (ks : List Key) (most : ℕ) (js : List Key) (i : ℕ) → js ≡ take i ks → AreMore a (entered_all (keys_in a) js) b → most < length b → most < length (entered_all (keys_in a) ks)
many_entered a b ks most js i is m h =
    let l : length (keys_in b) ≡ length b = length-map b key_of_entrant in
    let e = ap length m.keys_are in
    let f = first_fewer (keys_in a) ks i in
    let g = ap (λ xs. length (entered_all (keys_in a) xs)) is in
    omega arith
