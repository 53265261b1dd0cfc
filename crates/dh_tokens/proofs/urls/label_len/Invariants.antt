use Rattle.std.proofs.Common.{◌≡◌, ◌≤◌, ◌+◌, ◌==◌, take}
use Rattle.std.specs.List.{prefix_len, suffix_len}
use Rattle.dh_syntax.specs.Text.Characters.{is_host_byte}
use Rattle.dh_tokens.proofs.urls.label_len.Given as goal

abbrev pub invariant-loop-len : goal.invariant-loop-len
invariant-loop-len l =
    let n = prefix_len is_host_byte l.rest in
    (l.len ≤ n) × (l.len + suffix_len (λ b. b == 45) (take n l.rest) ≡ n + suffix_len (λ b. b == 45) (take l.len l.rest))

abbrev pub decreases-loop-len : goal.decreases-loop-len
decreases-loop-len l = l.len
