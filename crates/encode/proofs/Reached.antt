-- Sounds that reach the bounds of demand 3, and the most samples, by computing them. Assumes nothing.
use mathlib.Core.Path.{refl}
use Rattle.units.specs.Checks.{decided}
use Rattle.little.specs.Numbers.{number_in, number_at, bytes_of}
use Rattle.samples.specs.Sound.{hold, signed_of, bits_of, sample_at, sample_bytes}
use Rattle.lists.specs.Turns.{values, joined, in_turn, picked}
use Rattle.ima_code.specs.Code.{step_at, has_bit, difference_size, signed_by, difference, index_from, after_code, bit_if, left_of, bits_for, code_of, code_for, tracked, is_chased}
use Rattle.lists.specs.States.{through}
use Rattle.ima_code.specs.Machine.{codes_of, after}
use Rattle.ima_code.specs.Quality.{within, at_most}
use Rattle.formats.specs.Format.{ima_samples, codable}
use Rattle.codec.specs.Codec.{nibbles, channel_states}
use Rattle.ima_block.specs.Block.{channel_part, ima_opened}
use Rattle.ima_coder.specs.Part.{samples_from, packed, block_head, coded_part, closing_index}
use Rattle.encode.specs.Encoding.{block_of, open_index, channel_bytes, block_bytes, blocks_for, encoded_bytes, encode_verdict}
use Rattle.encode.specs.Demands.{frame_of, block_of_bytes, heard_at, chased_at, chased_frames, Reached, PassedOver, Limit}

pub reached : Reached
unfolding Reached heard_at chased_at chased_frames frame_of block_of_bytes at_most within through nibbles channel_states code_for tracked is_chased after_code code_of bits_for bit_if left_of step_at has_bit difference_size signed_by difference index_from hold codes_of after channel_part ima_opened picked sample_at number_at number_in signed_of encoded_bytes block_bytes channel_bytes blocks_for ima_samples block_of open_index samples_from packed block_head coded_part closing_index values joined in_turn sample_bytes bytes_of bits_of
reached = (refl, refl, refl)

pub passed_over : PassedOver
unfolding PassedOver heard_at chased_at chased_frames frame_of block_of_bytes at_most within through nibbles channel_states code_for tracked is_chased after_code code_of bits_for bit_if left_of step_at has_bit difference_size signed_by difference index_from hold codes_of after channel_part ima_opened picked sample_at number_at number_in signed_of encoded_bytes block_bytes channel_bytes blocks_for ima_samples block_of open_index samples_from packed block_head coded_part closing_index values joined in_turn sample_bytes bytes_of bits_of
passed_over = (refl, refl, refl)

pub limit : Limit
unfolding Limit encode_verdict decided codable blocks_for ima_samples
limit = (refl, refl)
