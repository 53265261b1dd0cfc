use Rattle.std.proofs.Common.{◌≡◌, ◌∙◌, ap, sym, refl, true, true≢false, codes}
use lib.Dec.{eqb}
use lib.Pointwise.{pointwise}
use Rattle.dh_command.specs.declared.verbs.Verb.TheVariants as verb
use Rattle.dh_top.proofs.Commands.{verb_of-none, verb_of-some}
use Rattle.dh_top.proofs.words.verb_named.Goals as goal

pub returns-else-eq-16 : goal.returns-else-eq-16
returns-else-eq-16 c =
    verb_of-none c.args.word.now
    (λ e. let equal : c.eq.result ≡ true = c.eq.ensures ∙ ap (λ w. pointwise eqb w (codes "encode")) e in
    true≢false (sym equal ∙ c.if-eq.false))
    (λ e. let equal : c.eq-else-eq.result ≡ true = c.eq-else-eq.ensures ∙ ap (λ w. pointwise eqb w (codes "decode")) e in
    true≢false (sym equal ∙ c.if-eq-2.false))
    (λ e. let equal : c.eq-else-eq-2.result ≡ true = c.eq-else-eq-2.ensures ∙ ap (λ w. pointwise eqb w (codes "resolve")) e in
    true≢false (sym equal ∙ c.if-eq-3.false))
    (λ e. let equal : c.eq-else-eq-3.result ≡ true = c.eq-else-eq-3.ensures ∙ ap (λ w. pointwise eqb w (codes "type")) e in
    true≢false (sym equal ∙ c.if-eq-4.false))
    (λ e. let equal : c.eq-else-eq-4.result ≡ true = c.eq-else-eq-4.ensures ∙ ap (λ w. pointwise eqb w (codes "normalize")) e in
    true≢false (sym equal ∙ c.if-eq-5.false))
    (λ e. let equal : c.eq-else-eq-5.result ≡ true = c.eq-else-eq-5.ensures ∙ ap (λ w. pointwise eqb w (codes "hash")) e in
    true≢false (sym equal ∙ c.if-eq-6.false))
    (λ e. let equal : c.eq-else-eq-6.result ≡ true = c.eq-else-eq-6.ensures ∙ ap (λ w. pointwise eqb w (codes "to-json")) e in
    true≢false (sym equal ∙ c.if-eq-7.false))
    (λ e. let equal : c.eq-else-eq-7.result ≡ true = c.eq-else-eq-7.ensures ∙ ap (λ w. pointwise eqb w (codes "freeze")) e in
    true≢false (sym equal ∙ c.if-eq-8.false))
    (λ e. let equal : c.eq-else-eq-8.result ≡ true = c.eq-else-eq-8.ensures ∙ ap (λ w. pointwise eqb w (codes "batch")) e in
    true≢false (sym equal ∙ c.if-eq-9.false))
    (λ e. let equal : c.eq-else-eq-9.result ≡ true = c.eq-else-eq-9.ensures ∙ ap (λ w. pointwise eqb w (codes "steps")) e in
    true≢false (sym equal ∙ c.if-eq-10.false))
    (λ e. let equal : c.eq-else-eq-10.result ≡ true = c.eq-else-eq-10.ensures ∙ ap (λ w. pointwise eqb w (codes "gen")) e in
    true≢false (sym equal ∙ c.if-eq-11.false))
    (λ e. let equal : c.eq-else-eq-11.result ≡ true = c.eq-else-eq-11.ensures ∙ ap (λ w. pointwise eqb w (codes "explain")) e in
    true≢false (sym equal ∙ c.if-eq-12.false))
    (λ e. let equal : c.eq-else-eq-12.result ≡ true = c.eq-else-eq-12.ensures ∙ ap (λ w. pointwise eqb w (codes "help")) e in
    true≢false (sym equal ∙ c.if-eq-13.false))
    (λ e. let equal : c.eq-else-eq-13.result ≡ true = c.eq-else-eq-13.ensures ∙ ap (λ w. pointwise eqb w (codes "--help")) e in
    true≢false (sym equal ∙ c.if-eq-14.false))
    (λ e. let equal : c.eq-else-eq-14.result ≡ true = c.eq-else-eq-14.ensures ∙ ap (λ w. pointwise eqb w (codes "-h")) e in
    true≢false (sym equal ∙ c.if-eq-15.false))
    (λ e. let equal : c.eq-else-eq-15.result ≡ true = c.eq-else-eq-15.ensures ∙ ap (λ w. pointwise eqb w (codes "--version")) e in
    true≢false (sym equal ∙ c.if-eq-16.false))

pub returns-then-eq-11 : goal.returns-then-eq-11
returns-then-eq-11 c = verb_of-some c.args.word.now (codes "gen") verb.Gen c.eq-else-eq-10.result c.eq-else-eq-10.ensures c.if-eq-11.true refl

pub returns-then-eq-12 : goal.returns-then-eq-12
returns-then-eq-12 c = verb_of-some c.args.word.now (codes "explain") verb.Explain c.eq-else-eq-11.result c.eq-else-eq-11.ensures c.if-eq-12.true refl

pub returns-then-eq-13 : goal.returns-then-eq-13
returns-then-eq-13 c = verb_of-some c.args.word.now (codes "help") verb.Help c.eq-else-eq-12.result c.eq-else-eq-12.ensures c.if-eq-13.true refl

pub returns-then-eq-14 : goal.returns-then-eq-14
returns-then-eq-14 c = verb_of-some c.args.word.now (codes "--help") verb.Help c.eq-else-eq-13.result c.eq-else-eq-13.ensures c.if-eq-14.true refl

pub returns-then-eq-15 : goal.returns-then-eq-15
returns-then-eq-15 c = verb_of-some c.args.word.now (codes "-h") verb.Help c.eq-else-eq-14.result c.eq-else-eq-14.ensures c.if-eq-15.true refl

pub returns-then-eq-16 : goal.returns-then-eq-16
returns-then-eq-16 c = verb_of-some c.args.word.now (codes "--version") verb.Version c.eq-else-eq-15.result c.eq-else-eq-15.ensures c.if-eq-16.true refl
