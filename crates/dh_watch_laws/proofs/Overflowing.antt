-- Where a run visits too many keys, the resolver visits too many.
use Rattle.std.specs.Prelude.{◌≡◌, ◌+◌, ◌<◌, ℕ, zero, suc, []}
use Rattle.std.proofs.Common.{sym, subst, zero-add, arith}
use Rattle.dh_syntax.specs.Limits.{most_keys}
use Rattle.dh_imports.specs.Records.{Record}
use Rattle.dh_imports.specs.Resolver.{resolve}
use Rattle.dh_imports.specs.Walk.{Ask}
use Rattle.dh_import_laws.proofs.Grow.{Longer, resolve-rises}
use Rattle.dh_import_laws.proofs.Sound.{decided_all}
use Rattle.dh_import_laws.proofs.Walks.{Knows}
use Rattle.dh_watch_laws.specs.Counting.{AreVisited}
use Rattle.dh_watch_laws.specs.Kept.{known}
use Rattle.dh_watch_laws.specs.Overflowing.{Continues, ManyOverflow}
use Rattle.dh_watch_laws.proofs.Holding.{found-grown, log-of, kept_are_resolved}
use Rattle.dh_watch_laws.proofs.Many.{keys-no-longer}
use Rattle.dh_watch_laws.proofs.Running.{from-longer}

-- what is known with so much to spend is known with more
pub knows-more : (r : Record) (ask : Ask) (extra n : ℕ) → Knows ask (resolve r n []) → Knows ask (resolve r (extra + n) [])
knows-more r ask zero n h = subst (λ m. Knows ask (resolve r m [])) (sym (zero-add n)) h
knows-more r ask (suc extra) n h =
    let e : suc (extra + n) ≡ suc extra + n = omega arith in
    subst (λ m. Knows ask (resolve r m [])) e (λ k o q. resolve-rises r (extra + n) [] k o (knows-more r ask extra n h k o q))

pub many_overflow : ManyOverflow
many_overflow now s root n h over m big = record {
  recorded = s.recorded;
  over = over;
  many = λ more c. go more c;
}
  where
    longer : (more : Record) → Continues s.recorded more → Longer s.recorded more
    longer more c = record { texts = c.texts; looks = c.looks }

    go : (more : Record) → Continues s.recorded more
        → (enough : ℕ) × ((extra v : ℕ) → AreVisited more (resolve more (extra + enough) []) root v → most_keys < v)
    go more c =
        let f = found-grown s.recorded more (longer more c) h.found (λ k o e. c.limits k o (kept_are_resolved s h k o e)) in
        let d = decided_all more (log-of more f) in
        (d.0, λ extra v a. by extra v d.0 d.1 a)
      where
        by : (extra v enough : ℕ) → Knows (known s.outcomes) (resolve more enough []) → AreVisited more (resolve more (extra + enough) []) root v → most_keys < v
        by extra v enough k a =
            let less = keys-no-longer m.keys a.keys m.apart (λ x i. (a.members x).1 (from-longer s.recorded more (longer more c) (resolve more (extra + enough) []) (m.visited x i (resolve more (extra + enough) []) (knows-more more (known s.outcomes) extra enough k)))) in
            omega (arith, less, m.count, a.count, big)
