-- Document 01, When a call is turned down: writing a table.
-- Assumes nothing.
use Rattle.std.specs.Prelude.{true, false, List, ℕ}
use Rattle.answer.specs.Outcome.{Outcome, TextOnly, refused, text_only, fitted}
use Rattle.programme.specs.declared.contract.Programme.{Programme}
use Rattle.programme.specs.Contract.{contracts_in}
use Rattle.programme.specs.Valid.{valid}
use Rattle.table_text.specs.Forms.{table_of}

-- the table text of a programme
abbrev pub text_of : Programme → List ℕ
text_of p = table_of (contracts_in p)

-- writing a programme: 6 where no table text reads to it
unfoldable pub write_of : Programme → (room : ℕ) → Outcome TextOnly
write_of p room = elim (valid p) [ true ↦ fitted room (text_of p) text_only | false ↦ refused 6 0 ]
