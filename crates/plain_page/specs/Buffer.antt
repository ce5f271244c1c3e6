-- The bytes of a buffer.
use Rattle.std.specs.Prelude.{ℕ, List}
use Rattle.plain_page.specs.declared.buffer.Buffer.{Buffer}

abbrev pub bytes_of : Buffer → List ℕ
bytes_of buffer = buffer.bytes.items
