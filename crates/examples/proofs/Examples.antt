-- The examples of document 01, by computing them. Assumes nothing.
use Rattle.units.specs.Checks.{decided}
use Rattle.little.specs.Numbers.{number_in, number_at, bytes_of}
use Rattle.samples.specs.Sound.{hold, signed_of, bits_of, sample_at, sample_bytes, eight}
use Rattle.lists.specs.States.{through}
use Rattle.lists.specs.Turns.{values, joined, in_turn, picked}
use Rattle.lists.specs.Every.{every}
use Rattle.formats.specs.Frames.{blocks_in}
use Rattle.ima_code.specs.Code.{step_at, has_bit, difference_size, signed_by, difference, index_from, after_code, bit_if, left_of, bits_for, code_of, code_for, tracked, is_chased}
use Rattle.ima_code.specs.Machine.{codes_of, after, chased_of}
use Rattle.formats.specs.Format.{ima_samples, ms_samples, plain_format, codable, ima_stored, ima_format}
use Rattle.codec.specs.Codec.{channel_states, channel_heard, headers_valid, nibbles}
use Rattle.ima_block.specs.Block.{channel_part, ima_opened}
use Rattle.ima_coder.specs.Part.{samples_from, packed, block_head, coded_part, closing_index, chased_part, count_of}
use Rattle.encode.specs.Encoding.{block_of, open_index, channel_bytes, chased_block, block_bytes, blocks_for, encoded_bytes, chased_in, chased_count}
use Rattle.ms_code.specs.Nibble.{signed_nibble, predicted, sample_after, held_delta, delta_after}
use Rattle.ms_code.specs.Nibble as nibble
use Rattle.ms_block.specs.Block.{predictor_of, coefficient, ms_opened, channel_nibbles}
use Rattle.sound_data.specs.Sound.{pcm_sample, channel_sound, block_frames, block_valid, data_valid, block_count, block_at, block_sound, whole_sound}
use Rattle.decode.specs.Decoding.{whole_verdict}
use Rattle.examples.specs.Examples.{coded, written, microsoft_sound, eights, headed, examples, Worked}

pub worked : Worked
unfolding Worked examples coded written microsoft_sound eights headed code_for tracked is_chased after_code code_of bits_for bit_if left_of step_at has_bit difference_size signed_by difference index_from hold codes_of after chased_of encoded_bytes chased_count chased_in chased_block block_bytes channel_bytes blocks_for ima_samples ms_samples plain_format codable ima_stored ima_format block_of open_index samples_from packed block_head coded_part closing_index chased_part count_of values joined in_turn sample_bytes bytes_of bits_of whole_verdict decided data_valid block_valid headers_valid channel_part every ima_opened whole_sound block_sound block_frames block_count block_at channel_sound pcm_sample blocks_in eight channel_heard channel_states channel_nibbles nibbles ms_opened coefficient predictor_of nibble.after_nibble delta_after held_delta sample_after predicted signed_nibble through picked sample_at signed_of number_at number_in
worked = search
