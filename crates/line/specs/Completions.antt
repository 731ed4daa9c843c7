-- What completes a read: the code of each in Read Data.
use Rattle.std.specs.Prelude.{ℕ}
use Rattle.rules.specs.ReadData.{by_terminator, by_valid_token, by_invalid_token, by_out_of_band, by_full_buffer, by_timeout, by_unread, by_underflow, by_absentee}
use Rattle.line.specs.declared.read_data.Completion.{Completion}
use Rattle.line.specs.declared.read_data.Completion.TheVariants.{Terminator, ValidToken, InvalidToken, OutOfBand, FullBuffer, Timeout, Unread, Underflow, Absentee}

abbrev pub code_of : Completion → ℕ
code_of Terminator = by_terminator
code_of ValidToken = by_valid_token
code_of InvalidToken = by_invalid_token
code_of OutOfBand = by_out_of_band
code_of FullBuffer = by_full_buffer
code_of Timeout = by_timeout
code_of Unread = by_unread
code_of Underflow = by_underflow
code_of Absentee = by_absentee
