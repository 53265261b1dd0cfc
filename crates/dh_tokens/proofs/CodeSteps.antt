-- The number of a character, byte by byte.
use Rattle.std.proofs.Common.{ℕ, zero, suc, ◌+◌, ◌-◌, ◌*◌, ◌^◌, ◌<◌, ◌≤◌, arith}

-- a number with six more bits has room, where so many bytes are still to come
pub code_has_room : (count code bits : ℕ) → 0 < count → count ≤ 3 → code < 2 ^ (32 - 8 * count) → bits < 256 → code * 64 + bits < 2 ^ (32 - 8 * (count - 1))
code_has_room zero code bits some few small low = absurd (omega arith)
code_has_room (suc zero) code bits some few small low = omega arith
code_has_room (suc (suc zero)) code bits some few small low = omega arith
code_has_room (suc (suc (suc zero))) code bits some few small low = omega arith
code_has_room (suc (suc (suc (suc n)))) code bits some few small low = absurd (omega arith)

-- so it fits
pub code_fits : (count code bits : ℕ) → 0 < count → count ≤ 3 → code < 2 ^ (32 - 8 * count) → bits < 256 → code * 64 + bits < 2 ^ 32
code_fits zero code bits some few small low = absurd (omega arith)
code_fits (suc zero) code bits some few small low = omega arith
code_fits (suc (suc zero)) code bits some few small low = omega arith
code_fits (suc (suc (suc zero))) code bits some few small low = omega arith
code_fits (suc (suc (suc (suc n)))) code bits some few small low = absurd (omega arith)
