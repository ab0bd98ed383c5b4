-- The laws of the definitions in specs/Bits.antt, under one name. Each is stated and proved in one of these
-- files:
--     Numbers     lists of bits, the bits of a number, the number that bits write
--     Bytes       the bits of bytes, bits packed as bytes, fields at a position
--     Putting     bits put into bytes
pub mod Numbers
pub mod Bytes
pub mod Putting
pub use Numbers.{below_append, below_take, below_drop, below_replicate, below_set, below_get_or}
pub use Numbers.{length-field_bits, field_bits_bits, field_bits_zero, field_bits-mod, drop-field_bits, take-field_bits, field_bits_split, field_bits_join}
pub use Numbers.{number-field_bits, field_bits-number, number_below, number_append, number_zero}
pub use Bytes.{length-bits_of, bits_of_bits, bits_of-append, bits_of-take, bits_of-drop, byte_at, bits_of_inj}
pub use Bytes.{pack_bits_bytes, length-pack_bits, bits_of-pack_bits, pack_bits_only}
pub use Bytes.{field_below, field_split, field_here, field_past}
pub use Putting.{length-put_bits, put_bits-append, put_bytes, bits_of-put_bits, put_earlier, put_later, put_read, put_field, put_packed}
