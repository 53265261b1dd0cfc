-- What a token leads to: a valid state that has read it.
use Rattle.std.proofs.Common.{◌≡◌, ℕ, ◌≤◌, List, ◌∙◌, leb-true}
use Rattle.std.specs.Prelude.{⊤, nat_le}
use Rattle.dh_syntax.specs.declared.tokens.Keyword.TheVariants as keywords
use Rattle.dh_syntax.specs.declared.tokens.TokenKind.{TokenKind}
use Rattle.dh_syntax.specs.declared.tokens.TokenKind.TheVariants as kinds
use Rattle.dh_syntax.specs.Text.Derivation.{NameToken, plain, quoted, Key, name_key, truth_key, builtin_key, some_key}
use Rattle.dh_syntax.specs.Text.Yield.{Written, name_kind, key_kind}
use Rattle.dh_grammar.specs.Inside.Before.{Text, before}
use Rattle.dh_grammar.specs.Machine.{need, have, wait, done, stopped, name_of, key_of}
use Rattle.dh_grammar.specs.Trees.{Stack, State, least, fits, with_name, with_key}
use Rattle.dh_grammar.specs.Inside.Valid.{Valid}
use Rattle.dh_grammar.proofs.TruthValues.{by_test}

abbrev pub Reads : Text → State → Type 0
Reads t stopped = ⊤
Reads t s = (r : List Written) → t r ≡ before s r

abbrev pub Leads : Text → State → Type 0
Leads t s = Valid s × Reads t s

pub leads_same : (t u : Text) (s : State) → ((r : List Written) → t r ≡ u r) → Leads u s → Leads t s
leads_same t u (need st) e h = (h.0, λ r. e r ∙ h.1 r)
leads_same t u (have st x) e h = (h.0, λ r. e r ∙ h.1 r)
leads_same t u (wait w st) e h = (h.0, λ r. e r ∙ h.1 r)
leads_same t u (done d) e h = (h.0, λ r. e r ∙ h.1 r)
leads_same t u stopped e h = (tt, tt)

pub fits_leads : (n : ℕ) (st : Stack) (t : Text) (s : State) → (least st ≤ n → Leads t s) → Leads t (fits n st s)
fits_leads n st t s f = by_test (Leads t) (nat_le (least st) n) s stopped (λ e. f (leb-true (least st) n e)) (λ e. (tt, tt))

pub with_name_leads : (t : TokenKind → Text) (k : TokenKind) (f : NameToken → State) → ((w : NameToken) → Leads (t (name_kind w)) (f w)) → Leads (t k) (with_name f (name_of k))
with_name_leads t (kinds.Name x) f h = h (plain x)
with_name_leads t (kinds.Quoted x) f h = h (quoted x)
with_name_leads t _ f h = (tt, tt)

pub with_key_leads : (t : TokenKind → Text) (k : TokenKind) (f : Key → State) → ((w : Key) → Leads (t (key_kind w)) (f w)) → Leads (t k) (with_key f (key_of k))
with_key_leads t (kinds.Name x) f h = h (name_key (plain x))
with_key_leads t (kinds.Quoted x) f h = h (name_key (quoted x))
with_key_leads t (kinds.Bool b) f h = h (truth_key b)
with_key_leads t (kinds.Builtin b) f h = h (builtin_key b)
with_key_leads t (kinds.Keyword keywords.Some) f h = h some_key
with_key_leads t _ f h = (tt, tt)
