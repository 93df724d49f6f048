-- The made contents of a chip: bits that a seed and the places of a test fix.
use Rattle.std.specs.Prelude.{ℕ, ◌+◌, ◌*◌, ◌%◌, Bool, false, nat_eq}
use Rattle.soc_model.specs.declared.TestId.{TestId}
use Rattle.soc_model.specs.Chips.{SocValue, LiveTest, live_tests, id_of, same_test}
use Rattle.soc_model.specs.Modes.{scan_lengths}
use Rattle.plan_model.specs.Cells.{Cell}
use Rattle.plan_model.specs.Plans.{of_first}
use Rattle.plan_model.specs.Runs.{Content}
use Rattle.vector_lines.specs.Marks.{digit, Keys}
use Rattle.vector_lines.specs.Places.{stimulus_place, response_place, test_place}

-- the square of a number is odd, modulo 997
abbrev pub has_odd_square : ℕ → Bool
has_odd_square v = nat_eq (((v * v) % 997) % 2) 1

-- Bit `n` of pattern `k` of the test at place `t` of the module at place `m`; `s` is 0 in a stimulus and 1 in a response.
unfoldable pub made_bit : (seed m t k n s : ℕ) → Bool
made_bit seed m t k n s = has_odd_square ((seed + 31 * m + 17 * t + 101 * k + 7 * n + 3 * (n * k) + s) % 997)

-- the made bit of a cell of a live test, in a stimulus and in a response
abbrev pub made_stimulus : (seed : ℕ) → LiveTest → ℕ → Cell → Bool
made_stimulus seed l k x =
    made_bit seed l.place (test_place l) k (stimulus_place (l.core.inputs + l.core.bidirs) (scan_lengths l.core l.test.scan) x) 0

abbrev pub made_response : (seed : ℕ) → LiveTest → ℕ → Cell → Bool
made_response seed l k x = made_bit seed l.place (test_place l) k (response_place (scan_lengths l.core l.test.scan) x) 1

-- what the live test of that name says; 0 where there is none
abbrev pub of_live : SocValue → TestId → (LiveTest → Bool) → Bool
of_live soc id f = of_first (λ (l : LiveTest). same_test (id_of l) id) f false (live_tests soc)

-- the made contents of a chip: all cells begin with 0
unfoldable pub made_content : SocValue → (seed : ℕ) → Content
made_content soc seed = record {
  initial = λ id x. false;
  stimulus = λ id k x. of_live soc id (λ l. made_stimulus seed l k x);
  response = λ id k x. of_live soc id (λ l. made_response seed l k x);
}

-- ---- by keys and numbers

-- a made bit, where `base` stands for the seed and the places of the module and of the test
unfoldable pub made_from : (base k n s : ℕ) → Bool
made_from base k n s = has_odd_square ((base + 101 * k + 7 * n + 3 * (n * k) + s) % 997)

-- the key by which the made contents of a seed know a test, and what they have by the numbers of the bits
abbrev pub made_keys : (seed : ℕ) → Keys
made_keys seed place at id = (seed + 31 * place + 17 * at) % 997

abbrev pub made_drive : (key k n : ℕ) → Bool
made_drive key k n = made_from key k n 0

abbrev pub made_mark : (key k n : ℕ) → ℕ
made_mark key k n = digit (made_from key k n 1)
