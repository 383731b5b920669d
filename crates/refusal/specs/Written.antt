-- What it means to write a text into a buffer.
use Rattle.std.specs.Prelude.{ℕ, cond, List, ◌++◌, length, take, drop, Ok, Err, Result, nat_lt}
use Rattle.refusal.specs.declared.refusal.Refusal.{Refusal}
use Rattle.refusal.specs.declared.refusal.Refusal.TheVariants.{TooShort}

-- the buffer with a text over its front
abbrev pub over : List ℕ → List ℕ → List ℕ
over text buf = text ++ drop (length text) buf

-- the buffer with a text over it from `at` on
abbrev pub over_at : ℕ → List ℕ → List ℕ → List ℕ
over_at at text buf = take at buf ++ over text (drop at buf)

-- the answer of writing a text at the front of a buffer: its length, or a refusal where the buffer is shorter
abbrev pub answer_of : List ℕ → List ℕ → Result ℕ Refusal
answer_of text buf = cond (nat_lt (length buf) (length text)) (Err (TooShort (length text))) (Ok (length text))

-- the buffer after that: it is left as it was where the text does not fit
abbrev pub buffer_after : List ℕ → List ℕ → List ℕ
buffer_after text buf = cond (nat_lt (length buf) (length text)) buf (over text buf)
