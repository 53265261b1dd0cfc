-- Imports are read back.
use Rattle.std.specs.Prelude.{◌≡◌, ℕ, Bool, true, ◌&&◌, if◌then◌else◌, List, [], ◌∷◌, ◌++◌, map, Option, Some, None, refl}
use Rattle.std.specs.List.{list_all}
use Rattle.std.proofs.Common.{sym, ◌∙◌, ap}
use Rattle.dh_syntax.specs.declared.expressions.Op.TheVariants as ops
use Rattle.dh_syntax.specs.declared.locations.Digest.{Digest}
use Rattle.dh_syntax.specs.declared.locations.Import.{Import}
use Rattle.dh_syntax.specs.declared.locations.Loc.{Loc}
use Rattle.dh_syntax.specs.declared.locations.Loc.TheVariants as locs
use Rattle.dh_syntax.specs.declared.locations.Mode.{Mode}
use Rattle.dh_syntax.specs.declared.locations.Mode.TheVariants as mode
use Rattle.dh_syntax.specs.declared.locations.Url.{Url}
use Rattle.dh_syntax.specs.Expressions.Arity.{has_some, loc_fits}
use Rattle.dh_syntax.specs.Bytes.Binary.{mode_code}
use Rattle.dh_syntax.specs.Bytes.BinaryHeads.{unsigned}
use Rattle.dh_syntax.specs.Bytes.BinaryItems.{Item, single}
use Rattle.dh_syntax.specs.Bytes.BinaryLeaves.{◌>>=◌, spelled, unsigned_of, digest_of, mode_of, components_of, query_of, url_from, url_of, location_by, import_of}
use Rattle.dh_syntax.specs.Bytes.BinaryRead as old
use Rattle.dh_syntax.specs.Expressions.Spellable.{is_component, is_environment, is_segment, is_query, is_host, query_spellable, url_spellable, location_spellable}
use Rattle.dh_syntax.specs.Expressions.Tree.{Node, end}
use Rattle.dh_binary.specs.Inside.Ranges.{digest_has_values}
use Rattle.dh_binary.specs.Written.{just, label, no, digest_item, optional_text, loc_items, import_item}
use Rattle.dh_binary.proofs.Back.{Back, just_back, parts_listed, read_items}
use Rattle.dh_binary.proofs.BackMore.{left_of, right_of}
use Rattle.dh_binary.proofs.BackNodes.{item_of}

items_same : (is : List Item) → map (λ p. p.item) (read_items is) ≡ is
items_same [] = refl
items_same (i ∷ is) = ap (λ j. j ∷ map (λ p. p.item) (read_items is)) (item_of i) ∙ ap (λ js. i ∷ js) (items_same is)

digest_reads : (d : Option Digest) → digest_has_values d ≡ true → digest_of (digest_item d) ≡ Some d
digest_reads None h = refl
digest_reads (Some d) h = ap (λ c. if c then Some (Some d) else None) h

mode_reads : (m : Mode) → mode_of (single (unsigned (mode_code m))) ≡ Some m
mode_reads mode.Code = refl
mode_reads mode.Text = refl
mode_reads mode.Location = refl

spells : (test : List ℕ → Bool) (x : List ℕ) → test x ≡ true → spelled test (label x) ≡ Some x
spells test x h = ap (λ c. if c then Some x else None) h

components_read : (cs : List (List ℕ)) → has_some cs ≡ true → list_all is_component cs ≡ true → components_of (map label cs) ≡ Some cs
components_read [] h l = cc
components_read (c ∷ []) h l = ap (λ o. o >>= λ c. Some (c ∷ [])) (spells is_component c (left_of (is_component c) _ l))
components_read (c ∷ d ∷ cs) h l =
    ap (λ o. o >>= λ c. components_of (map label (d ∷ cs)) >>= λ cs. Some (c ∷ cs)) (spells is_component c (left_of (is_component c) _ l))
    ∙ ap (λ o. o >>= λ cs. Some (c ∷ cs)) (components_read (d ∷ cs) refl (right_of (is_component c) _ l))

query_reads : (q : Option (List ℕ)) → query_spellable q ≡ true → query_of (optional_text q) ≡ Some q
query_reads None h = refl
query_reads (Some q) h = ap (λ o. o >>= λ q. Some (Some q)) (spells is_query q h)

abbrev url : List ℕ → List (List ℕ) → Option (List ℕ) → Url
url host cs q = record { host = host; comps = cs; query = q }

abbrev more_of : List ℕ → Url → Url
more_of c u = record u { comps = c ∷ u.comps }

more_url : (host : List ℕ) (c : List ℕ) (i j : Item) (is : List Item) (cs : List (List ℕ)) (q : Option (List ℕ)) → is_segment c ≡ true → url_from host (i ∷ j ∷ is) ≡ Some (url host cs q) → url_from host (label c ∷ i ∷ j ∷ is) ≡ Some (url host (c ∷ cs) q)
more_url host c i j is cs q h k =
    ap (λ o. o >>= λ c. url_from host (i ∷ j ∷ is) >>= λ u. Some (more_of c u)) (spells is_segment c h)
    ∙ ap (λ o. o >>= λ u. Some (more_of c u)) k

url_reads : (host : List ℕ) (cs : List (List ℕ)) (q : Option (List ℕ)) → has_some cs ≡ true → list_all is_segment cs ≡ true → query_spellable q ≡ true → url_from host (map label cs ++ optional_text q ∷ []) ≡ Some (url host cs q)
url_reads host [] q h l k = cc
url_reads host (c ∷ []) q h l k =
    ap (λ o. o >>= λ c. query_of (optional_text q) >>= λ q. Some (url host (c ∷ []) q)) (spells is_segment c (left_of (is_segment c) _ l))
    ∙ ap (λ o. o >>= λ q. Some (url host (c ∷ []) q)) (query_reads q k)
url_reads host (c ∷ d ∷ []) q h l k =
    more_url host c (label d) (optional_text q) [] (d ∷ []) q (left_of (is_segment c) _ l) (url_reads host (d ∷ []) q refl (right_of (is_segment c) _ l) k)
url_reads host (c ∷ d ∷ e ∷ cs) q h l k =
    more_url host c (label d) (label e) (map label cs ++ optional_text q ∷ []) (d ∷ e ∷ cs) q (left_of (is_segment c) _ l) (url_reads host (d ∷ e ∷ cs) q refl (right_of (is_segment c) _ l) k)

url_back : (u : Url) → has_some u.comps ≡ true → url_spellable u ≡ true → url_of (no ∷ label u.host ∷ map label u.comps ++ optional_text u.query ∷ []) ≡ Some u
url_back u h l =
    let a = left_of (is_host u.host && list_all is_segment u.comps) (query_spellable u.query) l in
    ap (λ o. o >>= λ h. url_from h (map label u.comps ++ optional_text u.query ∷ [])) (spells is_host u.host (left_of (is_host u.host) (list_all is_segment u.comps) a))
    ∙ url_reads u.host u.comps u.query h (right_of (is_host u.host) (list_all is_segment u.comps) a) (right_of (is_host u.host && list_all is_segment u.comps) (query_spellable u.query) l)

-- a location by the items from its scheme on
abbrev location : List Item → Option Loc
location [] = None
location (s ∷ is) = unsigned_of s >>= λ n. location_by n is

location_back : (l : Loc) → loc_fits l ≡ true → location_spellable l ≡ true → location (loc_items l) ≡ Some l
location_back (locs.Http u) h k = ap (λ o. o >>= λ u. Some (locs.Http u)) (url_back u h k)
location_back (locs.Https u) h k = ap (λ o. o >>= λ u. Some (locs.Https u)) (url_back u h k)
location_back (locs.Abs cs) h k = ap (λ o. o >>= λ cs. Some (locs.Abs cs)) (components_read cs h k)
location_back (locs.Here cs) h k = ap (λ o. o >>= λ cs. Some (locs.Here cs)) (components_read cs h k)
location_back (locs.Parent cs) h k = ap (λ o. o >>= λ cs. Some (locs.Parent cs)) (components_read cs h k)
location_back (locs.Home cs) h k = ap (λ o. o >>= λ cs. Some (locs.Home cs)) (components_read cs h k)
location_back (locs.Env x) h k = ap (λ o. o >>= λ x. Some (locs.Env x)) (spells is_environment x k)
location_back locs.Missing h k = refl

abbrev an_import : Loc → Mode → Option Digest → Import
an_import l m d = record { loc = l; mode = m; digest = d }

import_reads : (d m : Item) (is : List Item) (i : Import) → digest_of d ≡ Some i.digest → mode_of m ≡ Some i.mode → location is ≡ Some i.loc → import_of (d ∷ m ∷ is) ≡ Some i
import_reads d m [] i h k l = cc
import_reads d m (s ∷ is) i h k l =
    ap (λ o. o >>= λ digest. mode_of m >>= λ how. unsigned_of s >>= λ scheme. location_by scheme is >>= λ loc. Some (an_import loc how digest)) h
    ∙ ap (λ o. o >>= λ how. unsigned_of s >>= λ scheme. location_by scheme is >>= λ loc. Some (an_import loc how i.digest)) k
    ∙ sym (assoc (unsigned_of s))
    ∙ ap (λ o. o >>= λ loc. Some (an_import loc i.mode i.digest)) l
  where
    assoc : (o : Option ℕ) → ((o >>= λ n. location_by n is) >>= λ loc. Some (an_import loc i.mode i.digest)) ≡ (o >>= λ n. location_by n is >>= λ loc. Some (an_import loc i.mode i.digest))
    assoc None = refl
    assoc (Some n) = refl

pub import_back : (i : Import) → loc_fits i.loc ≡ true → location_spellable i.loc ≡ true → digest_has_values i.digest ≡ true → Back (just (import_item i)) (Node (ops.Import i) end)
import_back i h k l =
    let is = digest_item i.digest ∷ single (unsigned (mode_code i.mode)) ∷ loc_items i.loc in
    just_back _ _ (ap old.import_term (parts_listed is) ∙ ap (λ js. import_of js >>= λ i. Some (Node (ops.Import i) end)) (items_same is)
    ∙ ap (λ o. o >>= λ i. Some (Node (ops.Import i) end)) (import_reads (digest_item i.digest) (single (unsigned (mode_code i.mode))) (loc_items i.loc) i (digest_reads i.digest l) (mode_reads i.mode) (location_back i.loc h k)))
