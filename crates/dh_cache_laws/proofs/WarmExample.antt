-- A run with an entry that was honestly written: the premises of the laws can be met.
use Rattle.std.specs.Prelude.{◌≡◌, ◌⊎◌, ℕ, Bool, true, false, if◌then◌else◌, codes, List, [], ◌∷◌, Option, Some, None, Ok, refl}
use Rattle.std.proofs.Common.{ap, sym, ◌∙◌, subst, inl, inr}
use Rattle.dh_syntax.specs.declared.expressions.Op.TheVariants as ops
use Rattle.dh_syntax.specs.declared.locations.Digest.{Digest}
use Rattle.dh_syntax.specs.declared.locations.Key.{Key}
use Rattle.dh_syntax.specs.declared.locations.Loc.{Loc}
use Rattle.dh_syntax.specs.declared.locations.Loc.TheVariants as locs
use Rattle.dh_syntax.specs.declared.locations.Mode.TheVariants as modes
use Rattle.dh_imports.specs.declared.outcomes.Blame.{Blame}
use Rattle.dh_imports.specs.declared.outcomes.Origin.TheVariants as origins
use Rattle.dh_imports.specs.declared.outcomes.Why.TheVariants.{Differs}
use Rattle.dh_syntax.specs.Bytes.Binary.{enc}
use Rattle.dh_syntax.specs.Expressions.Forms as form
use Rattle.dh_syntax.specs.Expressions.SameTree.{digest_eq}
use Rattle.dh_syntax.specs.Expressions.Tree.{Node, end, Term}
use Rattle.dh_imports.specs.Keeps.{Visited, by_root, by_key, HasNoEntry, asked_by}
use Rattle.dh_syntax.specs.Imports.Keys.{bare}
use Rattle.dh_syntax.specs.Bytes.Digests.{digest_of}
use Rattle.dh_imports.specs.LastStep.{compared, own, last_step}
use Rattle.dh_imports.specs.Machine.{IsAmong}
use Rattle.dh_imports.specs.Outcomes.{Good}
use Rattle.dh_imports.specs.Records as found
use Rattle.dh_imports.specs.Records.{Record, look_at}
use Rattle.dh_imports.specs.Resolver as resolver
use Rattle.dh_imports.specs.Resolver.{Plan, plan_look, of_plan, ended, resolve, Resolves, ResolvesRoot}
use Rattle.dh_imports.specs.Walk.{Ask, by_outcome, walk, course, Ready, Fails}
use Rattle.dh_syntax.specs.Names.Alpha.{alpha, IsSame}
use Rattle.dh_syntax.proofs.AlphaEquations.{alpha-Node}
use Rattle.dh_syntax.proofs.SameTree.{digests_tell}
use Rattle.dh_imports.specs.HonestCache.{AreHonest}
use Rattle.dh_cache_laws.specs.WarmCache.{IsLimit, IsWarm}
use Rattle.dh_cache_laws.proofs.WarmRoots.{honest_entries, warm_root, roots-one}
use Rattle.dh_laws.proofs.KeyOrder.{none-some, some-equal}
use Rattle.dh_import_laws.specs.ImportLaws.{IsDecided}

abbrev one : Term
one = form.natural 1

-- `./a sha256:..`, with the digest of `1`
abbrev here : Loc
here = locs.Here (codes "a" ∷ [])

abbrev its_digest : Digest
its_digest = digest_of one

abbrev frozen : Key
frozen = record { loc = here; mode = modes.Code; digest = Some its_digest }

abbrev root : Term
root = Node (ops.Import (record { loc = here; mode = modes.Code; digest = Some its_digest })) end

-- with the entry, and nothing else
abbrev cached : Record
cached = record { texts = []; looks = (its_digest, found.Good (enc one) one) ∷ []; limits = [] }

-- with the text, and no entry
abbrev plain : Record
plain = record { texts = (here, found.Found (codes "1") None (Ok one)) ∷ []; looks = (its_digest, found.Miss) ∷ []; limits = [] }

abbrev plan_of : Record → Key → Plan
plan_of r k = resolver.plan r k

abbrev bytes_in : List ℕ → Option found.Seen → List ℕ
bytes_in d (Some (found.Good bytes e)) = bytes
bytes_in d (Some found.Miss) = d
bytes_in d (Some found.Failed) = d
bytes_in d None = d

abbrev term_in : Term → Option found.Seen → Term
term_in d (Some (found.Good bytes e)) = e
term_in d (Some found.Miss) = d
term_in d (Some found.Failed) = d
term_in d None = d

itself : digest_eq its_digest its_digest ≡ true
itself = digests_tell.itself its_digest

cached-look : look_at cached its_digest ≡ Some (found.Good (enc one) one)
cached-look = ap (λ b. if b then Some (found.Good (enc one) one) else None) itself

plain-look : look_at plain its_digest ≡ Some found.Miss
plain-look = ap (λ b. if b then Some found.Miss else None) itself

alpha-one : alpha one ≡ one
alpha-one = alpha-Node (ops.Nat 1) end

by_entry : ended cached 0 frozen (of_plan (resolve cached 0 (frozen ∷ [])) frozen (plan_look frozen its_digest (Some (found.Good (enc one) one)))) ≡ Some (Good one origins.Cached)
unfolding last_step
by_entry = refl

cached-resolves : resolve cached 1 [] frozen ≡ Some (Good one origins.Cached)
cached-resolves = ap (λ x. ended cached 0 frozen (of_plan (resolve cached 0 (frozen ∷ [])) frozen (plan_look frozen its_digest x))) cached-look ∙ by_entry

cached-ready : walk None (resolve cached 1 []) root ≡ Ready one
cached-ready = ap (by_outcome None frozen) cached-resolves

by_code : resolve plain 4 (frozen ∷ []) (bare frozen) ≡ Some (Good one (origins.Fetched None))
unfolding last_step
by_code = refl

by_compare : ended plain 4 frozen (of_plan (resolve plain 4 (frozen ∷ [])) frozen (plan_look frozen its_digest (Some found.Miss))) ≡ Some (compared frozen (Some its_digest) one (origins.Fetched None))
unfolding last_step
by_compare = refl

by_digest : compared frozen (Some its_digest) one (origins.Fetched None) ≡ Good one (origins.Fetched None)
by_digest = ap (λ b. if b then Good one (origins.Fetched None) else own frozen (Differs its_digest its_digest)) itself

plain-resolves : resolve plain 5 [] frozen ≡ Some (Good one (origins.Fetched None))
plain-resolves =
    ap (λ x. ended plain 4 frozen (of_plan (resolve plain 4 (frozen ∷ [])) frozen (plan_look frozen its_digest x))) plain-look
    ∙ by_compare ∙ ap (λ o. Some o) by_digest

plain-ready : walk None (resolve plain 5 []) root ≡ Ready one
plain-ready = ap (by_outcome None frozen) plain-resolves

-- ---- honesty

abbrev ask : Ask
ask = resolve cached 1 []

asked-root : (k : Key) → IsAmong k (course None ask root).asked → k ≡ frozen
asked-root k (inl p) = sym p
asked-root k (inr m) = absurd m

no-more : (k j : Key) → j ≡ frozen → IsAmong k (asked_by ask j (plan_of cached j)) → ⊥
no-more k j p m =
    subst (λ q. IsAmong k (asked_by ask frozen q)) (ap (plan_look frozen its_digest) cached-look) (subst (λ x. IsAmong k (asked_by ask x (plan_of cached x))) p m)

visited-frozen : {k : Key} → Visited cached ask root k → k ≡ frozen
visited-frozen (by_root {k = k} m) = asked-root k m
visited-frozen (by_key {j = j} {k = k} w m) = absurd (no-more k j (visited-frozen w) m)

same-digest : (d : Digest) (k : Key) → k ≡ frozen → k.digest ≡ Some d → its_digest ≡ d
same-digest d k p q = some-equal (sym (ap (λ x. x.digest) p) ∙ q)

good-bytes : (bytes : List ℕ) (e : Term) → look_at cached its_digest ≡ Some (found.Good bytes e) → (enc one ≡ bytes) × (one ≡ e)
good-bytes bytes e h = let p = sym cached-look ∙ h in (ap (bytes_in []) p, ap (term_in one) p)

none-good : (d : Digest) → HasNoEntry plain d
none-good d bytes e h = go (digest_eq its_digest d) h
  where
    go : (b : Bool) → (if b then Some found.Miss else None) ≡ Some (found.Good bytes e) → ⊥
    go true p = cc
    go false p = cc

honest : AreHonest cached ask root plain
honest = record {
  none_good = none-good;
  honest = λ k d bytes e visited p q.
      let at = visited-frozen visited in
      let g = good-bytes bytes e (ap (look_at cached) (same-digest d k at p) ∙ q) in
      (one, origins.Fetched None, subst (λ x. Resolves plain x (Good one (origins.Fetched None))) (sym at) (5, plain-resolves), ap enc alpha-one ∙ g.0, alpha-one ∙ g.1);
}

-- the premises are met
pub is_warm : IsWarm cached root plain
is_warm = record {
  agree = record { texts = λ l t u p q. none-some refl q; limits = λ k w p. none-some refl p; plain_limits = λ k w p. none-some refl p };
  spend = 1;
  decided = subst IsDecided (sym cached-ready) tt;
  entries = honest_entries cached ask root plain honest;
}

-- and so is what the law gives of them
fails-ready : (b : Blame) → Fails b ≡ Ready one → ⊥
fails-ready b h = cc

pub same_root : (w : Term) × ResolvesRoot cached root (Ready w) × IsSame one w
same_root = ready_of (warm_root cached plain root one is_warm (5, plain-ready))
  where
    ready_of : ((w : Term) × ResolvesRoot cached root (Ready w) × IsSame one w) ⊎ ((b : Blame) × ResolvesRoot cached root (Fails b) × IsLimit b) → (w : Term) × ResolvesRoot cached root (Ready w) × IsSame one w
    ready_of (inl h) = h
    ready_of (inr (b, h, l)) = absurd (fails-ready b (roots-one cached root (Fails b) (Ready one) h (1, cached-ready) tt tt))
