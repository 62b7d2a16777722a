-- A file that is read as samples.
use Rattle.std.specs.Prelude.{◌≡◌, ℕ, ℤ, List, None}
use Rattle.sample_file.specs.Ranges.{samples_of}
use Rattle.sample_file.specs.Reading.{file_rows}

-- no line of the file is refused, and its lines of one number are these samples of so many bits
pub record ReadsAs (width : ℕ) (samples : List ℤ) (bytes : List ℕ) : Type 0 where
  pub is : samples_of width (file_rows 1 bytes) ≡ record { items = samples; fault = None }
