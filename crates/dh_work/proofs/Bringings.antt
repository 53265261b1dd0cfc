-- News of texts and looks, from what a desk answered.
use Rattle.std.specs.Prelude.{◌≡◌, ◌↔◌, ◌≢◌, ◌&&◌, ℕ, Bool, true, false, List, [], Option, Some, None, option_map, IsTrue, MatchOption, Ok, Err, refl}
use Rattle.std.specs.Str as text
use Rattle.std.proofs.Common.{ap, sym, ◌∙◌, subst as along}
use Rattle.std.proofs.lemmas.Slice.Eq.{bytes_eq-Decides}
use Rattle.sha2.specs.Sha256.{sha256}
use Rattle.dh_syntax.specs.declared.expressions.Expr.{Expr}
use Rattle.dh_syntax.specs.declared.faults.DecodeFault.{DecodeFault}
use Rattle.dh_syntax.specs.declared.locations.Digest.{Digest}
use Rattle.dh_syntax.specs.declared.locations.Key.{Key}
use Rattle.dh_syntax.specs.declared.locations.Loc.{Loc}
use Rattle.dh_syntax.specs.Bytes.BinaryFaults.{DecodesTo}
use Rattle.dh_syntax.specs.Bytes.BinaryRead.{Reads}
use Rattle.dh_syntax.specs.Expressions.Bridge.{term}
use Rattle.dh_syntax.specs.Expressions.Tree.{Term}
use Rattle.dh_imports.specs.Records as found
use Rattle.dh_imports.specs.Records.{IsClosed, IsGood}
use Rattle.dh_imports.specs.Walk.{keys_of}
use Rattle.dh_syntax.proofs.BinaryFaultLaws.{decodes-unique}
use Rattle.dh_syntax.proofs.BinaryReadLaws.{reads-unique}
use Rattle.dh_ports.specs.Counts.{Rose}
use Rattle.dh_ports.specs.Desks.{Tells, shown}
use Rattle.dh_ports.specs.declared.worlds.Got.{Got}
use Rattle.dh_ports.specs.declared.worlds.Got.TheVariants as gots
use Rattle.dh_record.specs.Brought.{IsSeen, IsShelved, IsScanned, brings_failure, is_failed, news_of}
use Rattle.dh_record.specs.Entries.{EntryParts}
use Rattle.dh_record.specs.Rows.{seen_by}
use Rattle.dh_record.specs.declared.entries.Seen.{Seen}
use Rattle.dh_record.specs.declared.entries.Seen.TheVariants as seens
use Rattle.dh_record.specs.declared.news.News.TheVariants as news
use Rattle.dh_record.specs.declared.news.Noted.TheVariants as noteds
use Rattle.dh_record.specs.declared.news.Parsed.{Parsed}
use Rattle.dh_record.specs.declared.news.Parsed.TheVariants as parseds
use Rattle.dh_work.specs.Brings.{IsGoodAt, TellsFailure}
use Rattle.dh_work.specs.Inside.Coming.{IsWhole}

false-true : {P : Type 0} → false ≡ true → P
false-true h = absurd cc

-- ---- texts

answered : (l : Loc) (got : Got) (scan : Option Parsed) → IsScanned l (noteds.Got got) scan → brings_failure (news_of (news.Fetched l (noteds.Got got) scan)) ≡ false
answered l (gots.Found f) (Some (parseds.Good e ks)) h = refl
answered l (gots.Found f) (Some (parseds.Bad b)) h = refl
answered l (gots.Found f) None h = absurd h
answered l gots.Absent scan h = refl
answered l (gots.Broken n) scan h = refl

-- what a desk found is no failure
pub text_tells : (l : Loc) (got : Got) (scan : Option Parsed) (before after : ℕ) → IsScanned l (noteds.Got got) scan
    → TellsFailure (news.Fetched l (noteds.Got got) scan) before after
text_tells l got scan before after h p = false-true (sym (answered l got scan h) ∙ p)

-- ---- entries

pub digest_tells : (r : Bool) (x h d : List ℕ) → r ≡ text.bytes_eq x d → x ≡ h → IsTrue r ↔ (h ≡ d)
digest_tells r x h d p q = (λ t. sym q ∙ (bytes_eq-Decides x d).0 (sym p ∙ t), λ k. p ∙ (bytes_eq-Decides x d).1 (q ∙ k))

-- whether there is no import and no free variable, by whether there is no import
pub imports_tell : (a : Bool) (ks ls : List Key) (C : Type 0) → IsTrue a ↔ (ks ≡ []) → ks ≡ ls → a ≡ false → IsTrue false ↔ ((ls ≡ []) × C)
imports_tell a ks ls C p q r = (λ h. false-true h, λ (e, c). false-true (sym r ∙ p.1 (q ∙ e)))

pub closed_whole : (a : Bool) (ks ls : List Key) (C : Type 0) → IsTrue a ↔ (ks ≡ []) → ks ≡ ls → a ≡ true → (b : Bool) → IsTrue b ↔ C → IsTrue b ↔ ((ls ≡ []) × C)
closed_whole a ks ls C p q r b h = (λ t. (sym q ∙ p.0 r, h.0 t), λ (e, c). h.1 c)

-- bytes that are an expression with an import or a free variable
pub not_whole : (bytes : List ℕ) (e : Term) (b : Bool) → Reads bytes e → IsTrue b ↔ ((keys_of None e ≡ []) × IsClosed e) → b ≡ false → (f : Term) → ¬ IsWhole bytes f
not_whole bytes e b r p q f (s, k, c) =
    let same : f ≡ e = reads-unique bytes f e s r in
    false-true (sym q ∙ p.1 (along (λ x. keys_of None x ≡ []) same k, along IsClosed same c))

error-value : (e : Term) (f : DecodeFault) → Ok e ≡ Err f → ⊥
error-value e f h = absurd cc

-- bytes that are no expression
pub not_read : (bytes : List ℕ) (f : DecodeFault) → DecodesTo bytes (Err f) → (e : Term) → ¬ IsWhole bytes e
not_read bytes f h e (s, k, c) = error-value e f (decodes-unique bytes (Ok e) (Err f) s h)
