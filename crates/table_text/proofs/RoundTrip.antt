-- Between texts and programmes: what is read is valid and its table is the text read, and the table of a valid
-- programme is read back as the programme.
-- Assumes nothing.
use mathlib.Core.Path.{◌≡◌, sym, ap, ◌∙◌}
use mathlib.Core.Bool.{true}
use mathlib.Core.List.{List, map}
use Prim.Native.Nat.{ℕ}
use Rattle.lists.specs.Each.{Each}
use Rattle.lists.proofs.Each.{each_of, each_map}
use Rattle.text.proofs.Ascii.{Byte, joined_bytes}
use Rattle.programme.specs.declared.contract.Programme.{Programme}
use Rattle.programme.specs.Contract.{contracts_in_order, contracts_in}
use Rattle.programme.specs.Valid.{valid}
use Rattle.programme.proofs.Lawful.{contracts-placed, lawful-valid, valid-placed, valid-lawful}
use Rattle.table_text.specs.Forms.{line_of, table_of}
use Rattle.table_text.specs.Read.{read_as, read_of}
use Rattle.table_text.specs.Write.{text_of}
use Rattle.table_text.proofs.Lines.{line-bytes}
use Rattle.table_text.proofs.TextRead.{table-read}
use Rattle.table_text.proofs.TableBack.{table-back}

-- what is read is valid
pub read-valid : (s : List ℕ) (p : Programme) → read_of s ≡ read_as p → valid p ≡ true
read-valid s p e =
    let t = table-read s p e in
    ap valid (sym t.programme) ∙ lawful-valid t.contracts t.lawful

-- the text that a programme is read from is the programme's table text
pub read-written : (s : List ℕ) (p : Programme) → read_of s ≡ read_as p → s ≡ text_of p
read-written s p e =
    let t = table-read s p e in
    t.text ∙ ap table_of (sym (contracts-placed t.contracts)) ∙ ap text_of t.programme

-- the table text of a valid programme is read back as the programme
pub written_read : (p : Programme) → valid p ≡ true → read_of (text_of p) ≡ read_as p
written_read p e = table-back (contracts_in p) (valid-lawful p e) ∙ ap read_as (valid-placed p e)

-- a table text is a text of bytes
pub text-bytes : (p : Programme) → Each Byte (text_of p)
text-bytes p =
    let xs = contracts_in_order (contracts_in p) in
    joined_bytes (map line_of xs) (each_map (Each Byte) line_of xs (each_of _ line-bytes xs))
