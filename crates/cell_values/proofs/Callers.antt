-- What the crates above cite.

-- a decimal by its text, both ways, and texts without digits
pub use Rattle.cell_values.proofs.DecimalLaws.{no_digits, some-from_text, text-from_some}
-- each byte of a decimal is above the blank, and there is one; the text of a missing value is a decimal
pub use Rattle.cell_values.proofs.PrintedTokens.{decimal-missing, decimal-some, decimal-visible, missing_decimal}
-- two decimals of one exact value
pub use Rattle.cell_values.proofs.Alike.{same_value-is, same_value-means}
-- the value that a kind takes from a decimal, and the cell that is read
pub use Rattle.cell_values.proofs.Readings.{denominator_pos, nearest-signed, quotient-exact, quotient-part, value-from_cell}
-- a printed cell is a decimal, reads back, and is no missing value
pub use Rattle.cell_values.proofs.PrintedBack.{printed-back}
pub use Rattle.cell_values.proofs.PrintedTokens.{printed-decimal, printed-not_missing}
-- two tests that hold alike are one
pub use Rattle.cell_values.proofs.Cuts.{same_test}
